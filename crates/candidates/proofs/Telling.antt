-- A candidate is fixed by its word; and what a sift answers is the one candidate that passes.
use Rattle.std.proofs.Common.{◌≡◌, ℕ, ◌<◌, ◌≤◌, List, length, get_or, Some, None, sym, ap, ◌∙◌, ⊎_elim, arith}
use Rattle.std.proofs.lemmas.List.{ext_get_or}
use Rattle.std.proofs.lemmas.Bool.{cases_lt}
use Rattle.decoding.specs.Code.{Code}
use Rattle.decoding.specs.Words.{Same, differ, Codeword}
use Rattle.decoding.proofs.Words.{message_unique, distance_same}
use Rattle.fields.specs.Numbers.{Numbers, AllBelow, Element, elem_inj, field_of}
use Rattle.polynomials.specs.Series.{poly}
use Rattle.polynomials.proofs.Readings.{all_at, poly_at}
use Rattle.sift.specs.Received.{Ends, Describes, Passed, NonePasses}
use Rattle.sift.proofs.Counts.{count_le}
use Rattle.sift.proofs.Recovery.{ends_below}
use Rattle.candidates.specs.declared.records.Candidate.{Candidate}
use Rattle.candidates.specs.Telling.{Tells, Passing, Only}
use Rattle.candidates.specs.Orders.{same_parts}

module _ (F : Numbers) where
  -- lists of elements that read as the same places
  same_at : (xs ys : List ℕ) → AllBelow F.q xs → AllBelow F.q ys → (j : ℕ) → poly F xs j ≡ poly F ys j → get_or xs j 0 ≡ get_or ys j 0
  same_at xs ys a b j e =
      elem_inj F (get_or xs j 0) (get_or ys j 0) (all_at F xs a j) (all_at F ys b j) (sym (poly_at F xs j) ∙ e ∙ poly_at F ys j)

  -- lists of one length that read as the same up to their ends, with zeros beyond
  same_list : (n : ℕ) (xs ys : List ℕ) → length xs ≡ length ys → AllBelow F.q xs → AllBelow F.q ys → Ends n xs → Ends n ys
      → Same n (poly F xs) (poly F ys) → xs ≡ ys
  same_list n xs ys l a b x y e =
      ext_get_or 0 xs ys l
      (λ j _. ⊎_elim (λ (u : j < n). same_at xs ys a b j (e j u)) (λ (u : n ≤ j). x j u ∙ sym (y j u)) (cases_lt j n))

  module _ (C : Code (field_of F)) (k : ℕ) (r : ℕ → Element F) (few : k ≤ C.n) where
    abbrev word_of : (c : Candidate) → Tells F C k r c → Codeword (field_of F) C k (poly F c.word)
    word_of c t =
        record { message = poly F c.message; short = ends_below F k c.message t.message_ends; word = t.issued }

    -- candidates that tell the same word are the same
    pub tells_one : (c d : Candidate) → Tells F C k r c → Tells F C k r d → Same C.n (poly F c.word) (poly F d.word) → c ≡ d
    tells_one c d t u e = same_parts c d words distances messages
      where
        words : c.word ≡ d.word
        words =
            same_list C.n c.word d.word (t.word_long ∙ sym u.word_long) t.word_all u.word_all t.word_ends u.word_ends e

        distances : c.distance ≡ d.distance
        distances = t.apart ∙ distance_same (field_of F) C.n r (poly F c.word) (poly F d.word) e ∙ sym u.apart

        read_same : poly F c.message ≡ poly F d.message
        read_same =
            message_unique (field_of F) C k few (poly F c.word) (word_of c t)
            (record { message = poly F d.message; short = ends_below F k d.message u.message_ends; word = λ j v. e j v ∙ u.issued j v })

        messages : c.message ≡ d.message
        messages =
            ext_get_or 0 c.message d.message (t.message_long ∙ sym u.message_long)
            (λ j _. same_at c.message d.message t.message_all u.message_all j (ap (λ (p : ℕ → Element F). p j) read_same))

    module _ (τ : ℕ) (w : ℕ → Element F) where
      pub passed_only : (c : Candidate) → length c.message ≡ 32 → length c.word ≡ 32
          → Passed F C k τ r w c.distance c.message c.word → Only (Passing F C k r τ w) (Some c)
      passed_only c m l p = (record { tells = told; passes = p.passes }, λ z q. tells_one z c q.tells told (p.only (poly F z.word) q.passes))
        where
          told : Tells F C k r c
          told =
              record {
                message_long = m;
                message_all = p.message_all;
                message_ends = p.message_ends;
                word_long = l;
                word_all = p.word_all;
                word_ends = p.word_ends;
                issued = p.issued;
                apart = p.apart;
              }

      pub none_only : NonePasses F C k τ r w → Only (Passing F C k r τ w) None
      none_only no_word z q = no_word (poly F z.word) q.passes

  -- the distance of a word that passes is the count of places at most
  pub short_distance : {αs vs : List ℕ} (C : Code (field_of F)) → Describes F αs vs C → {k τ d : ℕ} {r w : ℕ → Element F} {message word : List ℕ}
      → Passed F C k τ r w d message word → d ≤ length αs
  short_distance C told {r = r} {word = word} p =
      let most = count_le C.n (differ (field_of F) r (poly F word)) in
      omega (arith, p.apart, told.places)
