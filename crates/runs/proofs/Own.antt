-- A listing of a collection's own shares into 8 records at most, against the book.
use Rattle.std.proofs.Common.{◌≡◌, ℕ, ◌<◌, ◌≤◌, min, ltb, List, ◌++◌, length, take, Some, None, Ok, Option, sym, refl, ap, ◌∙◌, subst, ⊎_elim, arith}
use Rattle.std.proofs.lemmas.List.{take-append-le}
use Rattle.std.proofs.lemmas.Bool.{cases_lt}
use Rattle.std.proofs.lemmas.Bool.Decides.{nat_tests as tests}
use Rattle.fields.specs.Numbers.{Numbers}
use Rattle.faults.specs.declared.ListingFault.{ListingFault}
use Rattle.faults.specs.declared.ListingFault.TheVariants.{ResultArea, WorkArea}
use Rattle.faults.specs.Faults.{listing_refusal}
use Rattle.codes.specs.First.{or_else, when}
use Rattle.codes.specs.Opening.{Given, count_fault, threshold_fault, place_fault, setting_fault, first_fault}
use Rattle.codes.proofs.Firsts.{when_false, or_else_none}
use Rattle.codes.proofs.Opened.{accepted}
use Rattle.collections.specs.Book.{Book, unopened, opened, Fair}
use Rattle.collections.proofs.Fairness.{no_fault}
use Rattle.collections.specs.Standing.{shares}
use Rattle.gathering.specs.Shares.{gathering_fault}
use Rattle.interpolating.specs.Interpolation.{work_of}
use Rattle.candidates.specs.declared.records.Candidate.{Candidate}
use Rattle.listings.specs.Calls.{listing_fault, Answered}
use Rattle.runs.specs.Law.{lists, refuses, AllNear, RightList}

-- no accepted list limit is above 8, so that a result area of 8 records refuses as a longer one does
limit_short : (q : ℕ) (g : Given) → first_fault q g ≡ None → g.setting.list_limit ≤ 8
limit_short q g e =
    let (a, r) = or_else_none (count_fault q g) _ e in
    let (b, s) = or_else_none (threshold_fault g) _ r in
    let (p, t) = or_else_none (place_fault q g) (setting_fault g) s in
    (accepted g t).short

same_room : (ℓ m : ℕ) → ℓ ≤ 8 → when (ltb (min m 8) ℓ) (ResultArea (min m 8)) ≡ when (ltb m ℓ) (ResultArea m)
same_room ℓ m h =
    ⊎_elim
    (λ (u : m < 8). let e : min m 8 ≡ m = omega arith in ap (λ (k : ℕ). when (ltb k ℓ) (ResultArea k)) e)
    (λ (u : 8 ≤ m). when_false (ltb (min m 8) ℓ) (ResultArea (min m 8)) (grind (arith, tests)) ∙ sym (when_false (ltb m ℓ) (ResultArea m) (grind (arith, tests))))
    (cases_lt m 8)

eight_suffice : (q : ℕ) (b : Book) (told : List (Option ℕ)) (m w : ℕ) → Fair q b → listing_fault q b told (min m 8) w ≡ listing_fault q b told m w
eight_suffice q unopened told m w f = refl
eight_suffice q (opened g ps) told m w f =
    ap (λ (o : Option ListingFault). or_else (gathering_fault q (length g.points) told) (or_else o (when (ltb w (work_of (length g.points) g.setting)) (WorkArea w))))
    (same_room g.setting.list_limit m (limit_short q g f.passed))

module _ (F : Numbers) (b : Book) (m k w : ℕ) (fair : Fair F.q b) (room : k ≡ min m 8) where
  fault_is : (o : Option ListingFault) → o ≡ listing_fault F.q b (shares b) k w → o ≡ listing_fault F.q b (shares b) m w
  fault_is o e = e ∙ ap (λ (i : ℕ). listing_fault F.q b (shares b) i w) room ∙ eight_suffice F.q b (shares b) m w fair

  pub own_listed : (n : ℕ) (before after rest : List Candidate) → None ≡ listing_fault F.q b (shares b) k w → Answered F b (shares b) (Ok n) before after
      → RightList F b (listing_fault F.q b (shares b) m w) (lists (take n (after ++ rest)))
  own_listed n before after rest e a =
      let (fits, all) = in_book b e a in
      subst (λ (o : Option ListingFault). RightList F b o (lists (take n (after ++ rest)))) (fault_is None e)
      (record { items = take n after; replies = ap lists (take-append-le n after rest fits); all = all })
    where
      in_book : (z : Book) → None ≡ listing_fault F.q z (shares z) k w → Answered F z (shares z) (Ok n) before after → (n ≤ length after) × AllNear F z (take n after)
      in_book unopened t h = absurd (no_fault _ (sym t))
      in_book (opened g ps) t h = (h.0.room, h.0.listing)

  pub own_refused : (f : ListingFault) → Some f ≡ listing_fault F.q b (shares b) k w
      → RightList F b (listing_fault F.q b (shares b) m w) (refuses (listing_refusal f) None)
  own_refused f e = subst (λ (o : Option ListingFault). RightList F b o (refuses (listing_refusal f) None)) (fault_is (Some f) e) refl
