-- The records near the shares are the candidates of the decoder's theory: `Within`, by numbers alone, and `Close`, by the theory's code, say the same.
use Rattle.std.proofs.Common.{◌≡◌, ℕ, ◌-◌, ◌<◌, ◌≤◌, List, length, get_or, take, replicate, sym, refl, ap, ◌∙◌, subst, ⊎_elim, arith, length-append, length-take, get_or-take}
use mathlib.Core.Path.{fun_ext}
use lib.ListN.{length-replicate, get_or-eq_default}
use Rattle.std.proofs.lemmas.List.{get_or_append_left, get_or-append_right, get_or-replicate}
use Rattle.std.proofs.lemmas.Bool.{cases_lt}
use Rattle.std.proofs.lemmas.List.FromFn.{length-map-range_with_len, get_or-map-range_with_len}
use Rattle.decoding.specs.Code.{codeword as codeword_of}
use Rattle.decoding.specs.Words.{Same, distance as distance_of}
use Rattle.fields.specs.Numbers.{Numbers, AllBelow, Element, elem, field_of}
use Rattle.polynomials.specs.Series.{poly}
use Rattle.polynomials.proofs.Readings.{all_at, poly_at}
use Rattle.codes.specs.Opening.{Given}
use Rattle.codes.specs.Codewords.{codeword, value, Meant}
use Rattle.codes.proofs.Issued.{at_place}
use Rattle.stages.specs.Words.{distance}
use Rattle.stages.proofs.Words.{distance_reads}
use Rattle.sift.specs.Received.{Ends}
use Rattle.sift.proofs.Recovery.{ends_below}
use Rattle.rolls.specs.Order.{Lists}
use Rattle.candidates.specs.declared.records.Candidate.{Candidate}
use Rattle.candidates.specs.Order.{in_order}
use Rattle.candidates.specs.Telling.{Tells, Close}
use Rattle.candidates.proofs.Telling.{tells_one}
use Rattle.listings.specs.Listing.{padded, candidate_of, Within}
use Rattle.listings.specs.Theorems.{WithinMeant}

-- numbers and zeros after them
zero_at : (m i : ℕ) → get_or {A = ℕ} (replicate m 0) i 0 ≡ 0
zero_at m i =
    ⊎_elim (λ (h : i < m). get_or-replicate {A = ℕ} m i 0 0 h)
    (λ (h : m ≤ i). get_or-eq_default {A = ℕ} (replicate m 0) 0 (let e = length-replicate {A = ℕ} m 0 in omega arith))
    (cases_lt i m)

pub padded_at : (xs : List ℕ) (i : ℕ) → get_or (padded xs) i 0 ≡ get_or xs i 0
padded_at xs i =
    ⊎_elim (λ (h : i < length xs). get_or_append_left xs (replicate (32 - length xs) 0) 0 i h)
    (λ (h : length xs ≤ i).
    get_or-append_right xs (replicate (32 - length xs) 0) (length xs) i 0 refl h
    ∙ zero_at (32 - length xs) (i - length xs) ∙ sym (get_or-eq_default xs 0 h))
    (cases_lt i (length xs))

pub padded_long : (xs : List ℕ) → length xs ≤ 32 → length (padded xs) ≡ 32
padded_long xs h = simp (length-append, length-replicate) (omega arith)

padded_ends : (xs : List ℕ) (n : ℕ) → length xs ≡ n → Ends n (padded xs)
padded_ends xs n e j h = padded_at xs j ∙ get_or-eq_default xs 0 (omega arith)

-- a list that ends before k is its first k numbers
front_at : (k : ℕ) (xs : List ℕ) → Ends k xs → (i : ℕ) → get_or (take k xs) i 0 ≡ get_or xs i 0
front_at k xs h i =
    ⊎_elim (λ (u : i < k). get_or-take k xs i 0 u)
    (λ (u : k ≤ i). get_or-eq_default (take k xs) 0 (let e = length-take k xs in let z : length (take k xs) ≤ i = omega arith in z) ∙ sym (h i u))
    (cases_lt i k)

module _ (F : Numbers) where
  padded_below : (xs : List ℕ) → AllBelow F.q xs → AllBelow F.q (padded xs)
  padded_below xs h i _ = subst (λ (v : ℕ). v < F.q) (sym (padded_at xs i)) (all_at F xs h i)

  same_reading : (xs ys : List ℕ) → ((i : ℕ) → get_or xs i 0 ≡ get_or ys i 0) → poly F xs ≡ poly F ys
  same_reading xs ys e = fun_ext (λ i. poly_at F xs i ∙ ap (elem F) (e i) ∙ sym (poly_at F ys i))

  pub codeword_long : (points multipliers message : List ℕ) → length (codeword F points multipliers message) ≡ length points
  codeword_long points multipliers message = length-map-range_with_len (at_place F points multipliers message) 0 (length points)

  pub codeword_below : (points multipliers message : List ℕ) → AllBelow F.q (codeword F points multipliers message)
  codeword_below points multipliers message i h =
      subst (λ (v : ℕ). v < F.q)
      (sym (get_or-map-range_with_len (at_place F points multipliers message) 0 (length points) i i 0 (let e = codeword_long points multipliers message in omega arith) (omega arith)))
      (F.laws.mul_below (get_or multipliers i 0) (value F (get_or points i 0) message))

  module _ (g : Given) (M : Meant F (length g.points) g.threshold g.points g.multipliers) (few : length g.points ≤ 32)
      (fewer : g.threshold < length g.points) (rs : List ℕ) (all : AllBelow F.q rs) where
    module _ (message : List ℕ) (count : length message ≡ g.threshold) (elements : AllBelow F.q message) where
      -- the theory's word of the message
      reads_word : Same M.code.n (poly F (padded (codeword F g.points g.multipliers message)))
          (codeword_of (field_of F) M.code g.threshold (poly F (padded message)))
      unfolding poly
      reads_word j h =
          ap (elem F) (padded_at (codeword F g.points g.multipliers message) j)
          ∙ M.word message count elements j (let e = M.places in omega arith)
          ∙ ap (λ (p : ℕ → Element F). codeword_of (field_of F) M.code g.threshold p j) (fun_ext (λ i. ap (elem F) (sym (padded_at message i))))

      pub tells_message : Tells F M.code g.threshold (poly F rs) (candidate_of F g rs message)
      tells_message =
          record {
            message_long = padded_long message (omega arith);
            message_all = padded_below message elements;
            message_ends = padded_ends message g.threshold count;
            word_long = padded_long w (let e = codeword_long g.points g.multipliers message in omega arith);
            word_all = padded_below w (codeword_below g.points g.multipliers message);
            word_ends = padded_ends w M.code.n (codeword_long g.points g.multipliers message ∙ sym M.places);
            issued = reads_word;
            apart =
                ap (λ (n : ℕ). distance n rs w) (sym M.places)
                ∙ distance_reads F M.code.n rs w all (codeword_below g.points g.multipliers message)
                ∙ ap (distance_of (field_of F) M.code.n (poly F rs)) (same_reading w (padded w) (λ i. sym (padded_at w i)));
          }
        where
          w : List ℕ
          w = codeword F g.points g.multipliers message

    pub to_close : (c : Candidate) → Within F g rs c → Close F M.code g.threshold (poly F rs) g.setting.radius c
    to_close c w =
        subst (Close F M.code g.threshold (poly F rs) g.setting.radius) (sym w.is)
        (record {
          tells = t;
          near =
              record {
                codeword =
                    record {
                      message = poly F (padded w.message);
                      short = ends_below F g.threshold (padded w.message) t.message_ends;
                      word = t.issued;
                    };
                close = subst (λ (d : ℕ). d ≤ g.setting.radius) (ap (λ (x : Candidate). x.distance) w.is ∙ t.apart) w.near;
              };
        })
      where
        t : Tells F M.code g.threshold (poly F rs) (candidate_of F g rs w.message)
        t = tells_message w.message w.count w.elements

    pub to_within : (c : Candidate) → Close F M.code g.threshold (poly F rs) g.setting.radius c → Within F g rs c
    to_within c x =
        record {
          message = m;
          count = count;
          elements = elements;
          is = tells_one F M.code g.threshold (poly F rs) (let e = M.places in omega arith) c (candidate_of F g rs m) x.tells t same;
          near = subst (λ (d : ℕ). d ≤ g.setting.radius) (sym x.tells.apart) x.near.close;
        }
      where
        m : List ℕ
        m = take g.threshold c.message

        count : length m ≡ g.threshold
        count = let e = length-take g.threshold c.message in let l = x.tells.message_long in omega arith

        elements : AllBelow F.q m
        elements i h = subst (λ (v : ℕ). v < F.q) (sym (front_at g.threshold c.message x.tells.message_ends i)) (all_at F c.message x.tells.message_all i)

        t : Tells F M.code g.threshold (poly F rs) (candidate_of F g rs m)
        t = tells_message m count elements

        read : poly F (padded m) ≡ poly F c.message
        read = same_reading (padded m) c.message (λ i. padded_at m i ∙ front_at g.threshold c.message x.tells.message_ends i)

        same : Same M.code.n (poly F c.word) (poly F (padded (codeword F g.points g.multipliers m)))
        same j h =
            x.tells.issued j h
            ∙ ap (λ (p : ℕ → Element F). codeword_of (field_of F) M.code g.threshold p j) (sym read)
            ∙ sym (t.issued j h)

    -- a list of the ones is a list of the others
    pub restated : (items : List Candidate) → Lists in_order (Close F M.code g.threshold (poly F rs) g.setting.radius) items → Lists in_order (Within F g rs) items
    restated items l =
        record {
          ascending = l.ascending;
          sound = λ z h. to_within z (l.sound z h);
          complete = λ z w. l.complete z (to_close z w);
        }

pub within_meant : WithinMeant
within_meant F g M few fewer rs all c = (to_close F g M few fewer rs all c, to_within F g M few fewer rs all c)
