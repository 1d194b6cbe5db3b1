-- What the sift answers: the word that passes, or that none does.
use Rattle.std.proofs.Common.{◌≡◌, ℕ, suc, ◌+◌, ◌-◌, ◌<◌, ◌≤◌, true, false, ◌≢◌, List, length, get_or, sym, ap, ◌∙◌, subst, ap₂, arith}
use mathlib.Core.Path.{fun_ext}
use Rattle.algebra.specs.Poly.{at, Below}
use Rattle.algebra.specs.Sums.{count}
use Rattle.algebra.proofs.Eval.{ev_more}
use Rattle.algebra.proofs.Roots.{id_hom}
use Rattle.algebra.proofs.Products.{count_cong}
use Rattle.algebra.proofs.Degrees.{degree_less}
use Rattle.decoding.specs.Code.{Code, codeword}
use Rattle.decoding.specs.Words.{Same, differ, distance, Codeword}
use Rattle.decoding.specs.Sift.{zeros, Passes}
use Rattle.decoding.proofs.Sift.{sift_only}
use Rattle.fields.specs.Numbers.{Numbers, AllBelow, Element, elem, times, ring_of, field_of, elem_inj}
use Rattle.polynomials.specs.Series.{poly}
use Rattle.polynomials.proofs.Readings.{all_at, poly_at, poly_past}
use Rattle.sift.specs.Roots.{vanishes, Values, Splits}
use Rattle.sift.specs.Received.{Placed, Describes, Passed}
use Rattle.sift.specs.Reading.{Recovered, differs}
use Rattle.sift.proofs.Gathering.{differs_yes, differs_no}
use Rattle.sift.proofs.Recovery.{ends_below}
use Rattle.sift.proofs.Splitting.{value_zero, value_is, count_marks}

module _ (F : Numbers) where
  poly_eq : (xs ys : List ℕ) (j : ℕ) → get_or xs j 0 ≡ get_or ys j 0 → poly F xs j ≡ poly F ys j
  poly_eq xs ys j e = poly_at F xs j ∙ ap (elem F) e ∙ sym (poly_at F ys j)

  poly_inj : (xs ys : List ℕ) → AllBelow F.q xs → AllBelow F.q ys → (j : ℕ) → poly F xs j ≡ poly F ys j → get_or xs j 0 ≡ get_or ys j 0
  poly_inj xs ys hx hy j e =
      elem_inj F (get_or xs j 0) (get_or ys j 0) (all_at F xs hx j) (all_at F ys hy j) (sym (poly_at F xs j) ∙ e ∙ poly_at F ys j)

  -- the places where the numbers differ are those where the words do
  differ_is : (xs ys : List ℕ) → AllBelow F.q xs → AllBelow F.q ys → (j : ℕ) → differs xs ys j ≡ differ (field_of F) (poly F ys) (poly F xs) j
  unfolding differ
  differ_is xs ys hx hy j = go ((field_of F).equal (poly F ys j) (poly F xs j))
    where
      go : (d : Dec (poly F ys j ≡ poly F xs j)) → differs xs ys j ≡ elim d [ yes z ↦ false | no z ↦ true ]
      go (yes z) = differs_no xs ys j (sym (poly_inj ys xs hy hx j z))
      go (no z) = differs_yes xs ys j (λ e. z (poly_eq ys xs j (sym e)))

  module _ {αs vs rs w values : List ℕ} (p : Placed F αs vs rs) (v : Values F w αs values) where
    -- enough places are no roots
    pub enough : (k : ℕ) → Splits F αs (poly F w) → k ≤ length αs → Below (ring_of F) (length αs - k + 1) (poly F w)
        → k + count (length αs) (vanishes values) ≤ length αs
    enough k s l h =
        let a : s.size < length αs - k + 1 = degree_less (field_of F) s.size (length αs - k + 1) (poly F w) s.degree h in
        let b : count (length αs) (vanishes values) ≡ s.size = count_marks F v s.size s.degree ∙ s.split in
        omega arith

    module _ (C : Code (field_of F)) (d : Describes F αs vs C) where
      points_are : C.α ≡ poly F αs
      points_are = fun_ext (λ j. d.points j ∙ sym (poly_at F αs j))

      -- the value at a point of the code
      root_at : (m j : ℕ) → Below (ring_of F) m (poly F w) → m ≤ length w → j < length αs
          → elem F (get_or values j 0) ≡ at (ring_of F) (C.α j) m (poly F w)
      root_at m j h l u = value_is F v m j h l u ∙ ap (λ (α : ℕ → Element F). at (ring_of F) (α j) m (poly F w)) (sym points_are)

      off_root : (m j : ℕ) → Below (ring_of F) m (poly F w) → m ≤ length w → j < length αs → get_or values j 0 ≢ 0
          → at (ring_of F) (C.α j) m (poly F w) ≢ elem F 0
      off_root m j h l u nz e = nz (value_zero F (get_or values j 0) (all_at F values v.all j) (root_at m j h l u ∙ e))

      on_root : (m j : ℕ) → Below (ring_of F) m (poly F w) → m ≤ length w → j < length αs
          → at (ring_of F) (C.α j) m (poly F w) ≢ elem F 0 → get_or values j 0 ≢ 0
      on_root m j h l u nz e = nz (sym (root_at m j h l u) ∙ ap (elem F) e)

      module _ (k τ : ℕ) where
        -- a word passes only by a polynomial that splits
        passes_splits : {c : ℕ → Element F} → Passes (field_of F) C k τ (poly F rs) (poly F w) c → Splits F αs (poly F w)
        passes_splits t =
            record {
              size = t.size;
              degree = t.degree;
              split =
                  sym (ap₂ (λ (n : ℕ) (α : ℕ → Element F). count n (zeros (field_of F) α (suc t.size) (poly F w))) d.places points_are) ∙ t.split;
            }

        pub none_splits : (Splits F αs (poly F w) → ⊥) → (c : ℕ → Element F) → Passes (field_of F) C k τ (poly F rs) (poly F w) c → ⊥
        none_splits h c t = h (passes_splits t)

        module _ {message word : List ℕ} (t : Recovered F αs vs rs values k message word) (wide : k ≤ length message) where
          short : Below (ring_of F) k (poly F message)
          short = ends_below F k message t.ends

          issued : Same C.n (poly F word) (codeword (field_of F) C k (poly F message))
          issued j u =
              let l : j < length αs = subst (λ (n : ℕ). j < n) d.places u in
              poly_at F word j ∙ t.issued.is j l
              ∙ ap₂ (times F) (sym (d.multipliers j))
              (ev_more (ring_of F) (ring_of F) (λ x. x) (id_hom (ring_of F)) (elem F (get_or αs j 0)) k (length message) (poly F message) short wide
              ∙ ap (λ a. at (ring_of F) a k (poly F message)) (sym (d.points j)))

          code : Codeword (field_of F) C k (poly F word)
          code = record { message = poly F message; short = short; word = issued }

          -- any word that passes is this one
          only : {c : ℕ → Element F} → Passes (field_of F) C k τ (poly F rs) (poly F w) c
              → Same C.n c (poly F word) × Passes (field_of F) C k τ (poly F rs) (poly F w) (poly F word)
          only =
              sift_only (field_of F) C k τ (poly F rs) (poly F w) (poly F word) code t.places.place
              (λ i u. subst (λ (n : ℕ). t.places.place i < n) (sym d.places) (t.places.inside i u))
              (λ i j u l e. let a : t.places.place i < t.places.place j = t.places.rising i j u l in omega arith)
              (length w) (poly_past F w)
              (λ i u. off_root (length w) (t.places.place i) (poly_past F w) (omega arith) (t.places.inside i u) (t.places.nonzero i u))
              (λ i u. poly_eq word rs (t.places.place i) (t.agrees i u))

          pub none_off : (j : ℕ) → j < length rs → get_or values j 0 ≢ 0 → get_or word j 0 ≢ get_or rs j 0
              → (c : ℕ → Element F) → Passes (field_of F) C k τ (poly F rs) (poly F w) c → ⊥
          none_off j u nz ne c s =
              let q = (only s).1 in
              let l : j < length αs = subst (λ (n : ℕ). j < n) p.a_share_each u in
              ne (poly_inj word rs t.issued.all p.shares j
              (q.agrees j (subst (λ (n : ℕ). j < n) (sym d.places) l)
              (off_root (suc q.size) j q.degree.below (degree_less (field_of F) q.size (length w) (poly F w) q.degree (poly_past F w)) l nz)))

          distance_is : (n : ℕ) → n ≡ count (length rs) (differs word rs) → n ≡ distance (field_of F) C.n (poly F rs) (poly F word)
          distance_is n e =
              e ∙ count_cong (length rs) (differs word rs) (differ (field_of F) (poly F rs) (poly F word)) (λ j _. differ_is word rs t.issued.all p.shares j)
              ∙ ap (λ (m : ℕ). count m (differ (field_of F) (poly F rs) (poly F word))) (p.a_share_each ∙ sym d.places)

          pub none_near : (n : ℕ) → n ≡ count (length rs) (differs word rs) → τ < n
              → (c : ℕ → Element F) → Passes (field_of F) C k τ (poly F rs) (poly F w) c → ⊥
          none_near n e l c s =
              let a : n ≡ distance (field_of F) C.n (poly F rs) (poly F word) = distance_is n e in
              let b : distance (field_of F) C.n (poly F rs) (poly F word) ≤ τ = (only s).1.near.close in
              omega arith

          pub passed : Splits F αs (poly F w) → (n : ℕ) → n ≡ count (length rs) (differs word rs)
              → ((j : ℕ) → j < length rs → get_or values j 0 ≢ 0 → get_or word j 0 ≡ get_or rs j 0) → n ≤ τ
              → Passed F C k τ (poly F rs) (poly F w) n message word
          passed s n e same l =
              record {
                message_all = t.all;
                message_ends = t.ends;
                word_all = t.issued.all;
                word_ends = λ j u. t.issued.ends j (subst (λ (m : ℕ). m ≤ j) d.places u);
                issued = issued;
                passes = passes;
                apart = distance_is n e;
                only = λ c q. (only q).0;
              }
            where
              passes : Passes (field_of F) C k τ (poly F rs) (poly F w) (poly F word)
              passes =
                  record {
                    size = s.size;
                    degree = s.degree;
                    split = ap₂ (λ (m : ℕ) (α : ℕ → Element F). count m (zeros (field_of F) α (suc s.size) (poly F w))) d.places points_are ∙ s.split;
                    agrees = λ j u nz.
                        let x : j < length αs = subst (λ (m : ℕ). j < m) d.places u in
                        poly_eq word rs j
                        (same j (subst (λ (m : ℕ). j < m) (sym p.a_share_each) x)
                        (on_root (suc s.size) j s.degree.below (degree_less (field_of F) s.size (length w) (poly F w) s.degree (poly_past F w)) x nz));
                    near = record { codeword = code; close = subst (λ (m : ℕ). m ≤ τ) (distance_is n e) l };
                  }
