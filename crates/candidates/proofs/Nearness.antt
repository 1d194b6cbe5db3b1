-- Lists of what is sifted from pairs: with no pair, with one pair more; and with the right pairs, where they are the codewords near the shares.
use Rattle.std.proofs.Common.{◌≡◌, ℕ, zero, suc, ◌+◌, ◌-◌, ◌<◌, ◌≤◌, Bool, true, false, ◌⊎◌, List, [], ◌∷◌, ◌++◌, length, get_or, take, replicate, sym, ap, ◌∙◌, subst, ap₂, subst₂, inl, inr, ⊎_elim, arith}
use Rattle.std.proofs.lemmas.List.{take_all, take_more}
use Rattle.decoding.specs.Code.{Code}
use Rattle.decoding.specs.Setting.{Accepted}
use Rattle.decoding.specs.Sift.{located, Passes}
use Rattle.decoding.specs.Pairs.{Pairs}
use Rattle.decoding.specs.Theorems.{WordRows}
use Rattle.decoding.proofs.Complete.{complete}
use Rattle.decoding.proofs.AtMost.{at_most}
use Rattle.fields.specs.Numbers.{Numbers, Element, ring_of, field_of}
use Rattle.polynomials.specs.Series.{poly}
use Rattle.leaves.specs.declared.pairs.Pair.{Pair}
use Rattle.rolls.specs.Order.{Leads, Ascending, Has, Lists}
use Rattle.rolls.specs.Insertion.{cleared}
use Rattle.candidates.specs.declared.records.Candidate.{Candidate}
use Rattle.candidates.specs.Order.{in_order}
use Rattle.candidates.specs.Telling.{Passing, Close, blank}
use Rattle.candidates.specs.Sifting.{locator, Enters, FromOne, OneOf, ListsSifted, ListsNear}
use Rattle.candidates.specs.Orders.{in_order_total}
use Rattle.candidates.proofs.Telling.{tells_one}
use Rattle.candidates.proofs.Entering.{closed_items, closed_beyond, restate, has_first, has_last, has_cases, has_at}

module _ (F : Numbers) (αs vs rs h₁ h₂ : List ℕ) (k τ : ℕ) where
  pub none_sifted : ListsSifted F αs vs rs h₁ h₂ k τ [] []
  none_sifted C d =
      record { ascending = tt; sound = λ z h. elim h [ ]; complete = λ z f. f.member }

  module _ (C : Code (field_of F)) where
    -- what is sifted from some pairs and one more
    pub both : (pairs : List Pair) (p : Pair) (items : List Candidate) → Lists in_order (FromOne F C k τ rs h₁ h₂ pairs) items → (z : Candidate)
        → Has z items ⊎ Passing F C k (poly F rs) τ (locator F h₁ h₂ p) z → FromOne F C k τ rs h₁ h₂ (pairs ++ p ∷ []) z
    both pairs p items l z (inl h) =
        let f = l.sound z h in record { pair = f.pair; member = has_first f.pair pairs (p ∷ []) f.member; passing = f.passing }
    both pairs p items l z (inr q) = record { pair = p; member = has_last p pairs; passing = q }

    pub either : (pairs : List Pair) (p : Pair) (items : List Candidate) → Lists in_order (FromOne F C k τ rs h₁ h₂ pairs) items → (z : Candidate)
        → FromOne F C k τ rs h₁ h₂ (pairs ++ p ∷ []) z → Has z items ⊎ Passing F C k (poly F rs) τ (locator F h₁ h₂ p) z
    either pairs p items l z f =
        ⊎_elim
        (λ (m : Has f.pair pairs). inl (l.complete z (record { pair = f.pair; member = m; passing = f.passing })))
        (λ (e : f.pair ≡ p). inr (subst (λ (x : Pair). Passing F C k (poly F rs) τ (locator F h₁ h₂ x) z) e f.passing))
        (has_cases f.pair p pairs f.member)

  -- one pair more
  pub more_sifted : (pairs : List Pair) (i : ℕ) (p : Pair) (items items' : List Candidate) → i < length pairs
      → ListsSifted F αs vs rs h₁ h₂ k τ (take i pairs) items
      → Enters F αs vs rs h₁ h₂ k τ (get_or pairs i p) items items'
      → ListsSifted F αs vs rs h₁ h₂ k τ (take (i + 1) pairs) items'
  more_sifted pairs i p items items' h before after C d =
      let x = get_or pairs i p in
      subst (λ (ps : List Pair). Lists in_order (FromOne F C k τ rs h₁ h₂ ps) items') (sym (take_more pairs i p h))
      (restate (after C d) (both C (take i pairs) x items (before C d)) (either C (take i pairs) x items (before C d)))

  -- after all pairs, when the roll is closed: at the return `out` is what the closing left, `left`
  pub closed_sifted : (pairs : List Pair) (i n r : ℕ) (slots left : List Candidate) {out : List Candidate} → length pairs ≤ i → n ≤ length slots → r ≡ n
      → left ≡ cleared blank n slots → out ≡ left → ListsSifted F αs vs rs h₁ h₂ k τ (take i pairs) (take n slots)
      → ListsSifted F αs vs rs h₁ h₂ k τ pairs (take r out)
  closed_sifted pairs i n r slots left {out} h fits count held back l =
      subst₂ (ListsSifted F αs vs rs h₁ h₂ k τ) (take_all i pairs h)
      (sym (closed_items blank n slots out fits (back ∙ held)) ∙ ap (λ (m : ℕ). take m out) (sym count)) l

pub closed_blank : (n r m : ℕ) (slots left : List Candidate) {out : List Candidate} → n ≤ length slots → r ≡ n → m ≡ length slots
    → left ≡ cleared blank n slots → out ≡ left → out ≡ take r out ++ replicate (m - r) blank
closed_blank n r m slots left {out} fits count long held back =
    subst₂ (λ (a b : ℕ). out ≡ take a out ++ replicate (b - a) blank) (sym count) (sym long) (closed_beyond blank n slots out fits (back ∙ held))

-- an ascending list has lesser items before greater ones
leads_at : (c : Candidate) (items : List Candidate) (d : Candidate) → Leads in_order c items → (j : ℕ) → j < length items → in_order c (get_or items j d) ≡ true
leads_at c [] d a j h = absurd (omega arith)
leads_at c (x ∷ xs) d a zero h = a.0
leads_at c (x ∷ xs) d a (suc j) h = leads_at c xs d a.1 j (omega arith)

rises : (items : List Candidate) (d : Candidate) → Ascending in_order items → (i j : ℕ) → i < j → j < length items
    → in_order (get_or items i d) (get_or items j d) ≡ true
rises [] d a i j u v = absurd (omega arith)
rises (x ∷ xs) d a i zero u v = absurd (omega arith)
rises (x ∷ xs) d a zero (suc j) u v = leads_at x xs d a.0 j (omega arith)
rises (x ∷ xs) d a (suc i) (suc j) u v = rises xs d a.1 i j (omega arith) (omega arith)

never : (b : Bool) → b ≡ true → b ≡ false → ⊥
never b p q = let z : ◌≡◌ {A = ℕ} 0 1 = cc in omega arith

module _ (F : Numbers) (rs h₁ h₂ : List ℕ) (k τ : ℕ) (C : Code (field_of F)) {s ℓ : ℕ} (sum : k + C.D ≡ C.n) (A : Accepted C.n k τ s ℓ)
    (T : WordRows (field_of F) C (poly F rs)) (e₁ : poly F h₁ ≡ T.P.b) (e₂ : poly F h₂ ≡ T.L.b) (pairs : List Pair)
    (right : Pairs (field_of F) C T τ s ℓ (OneOf F pairs)) where
  -- what is sifted is near, and what is near is sifted
  to_near : (z : Candidate) → FromOne F C k τ rs h₁ h₂ pairs z → Close F C k (poly F rs) τ z
  to_near z f = record { tells = f.passing.tells; near = f.passing.passes.near }

  by_pair : (c : ℕ → Element F) (p : Pair) (f₁ f₂ : ℕ → Element F) → poly F p.first ≡ f₁ → poly F p.second ≡ f₂
      → Passes (field_of F) C k τ (poly F rs) (located (ring_of F) T.P.b T.L.b f₁ f₂) c
      → Passes (field_of F) C k τ (poly F rs) (locator F h₁ h₂ p) c
  by_pair c p f₁ f₂ a b =
      subst (λ (w : ℕ → Element F). Passes (field_of F) C k τ (poly F rs) w c)
      (ap₂ (λ (x y : ℕ → Element F). located (ring_of F) T.P.b T.L.b x y) (sym a) (sym b)
      ∙ ap₂ (λ (x y : ℕ → Element F). located (ring_of F) x y (poly F p.first) (poly F p.second)) (sym e₁) (sym e₂))

  to_sifted : (z : Candidate) → Close F C k (poly F rs) τ z → FromOne F C k τ rs h₁ h₂ pairs z
  to_sifted z t =
      let y = (complete (field_of F) C A sum (poly F rs) T (OneOf F pairs) right (poly F z.word)).1 t.near in
      record {
        pair = y.member.pair;
        member = y.member.member;
        passing =
            record {
              tells = t.tells;
              passes = by_pair (poly F z.word) y.member.pair y.f₁ y.f₂ y.member.first y.member.second y.passes;
            };
      }

  module _ (items : List Candidate) (l : Lists in_order (Close F C k (poly F rs) τ) items) where
    close_at : (i : ℕ) → i < length items → Close F C k (poly F rs) τ (get_or items i blank)
    close_at i u = l.sound (get_or items i blank) (has_at items i blank u)

    short : length items ≤ ℓ
    short =
        at_most (field_of F) C A sum (poly F rs) (length items) (λ i. poly F (get_or items i blank).word) (λ i u. (close_at i u).near)
        (λ i j u v e.
        let x = get_or items i blank in
        let y = get_or items j blank in
        let same : x ≡ y = tells_one F C k (poly F rs) (let a = A.fewer in omega arith) x y (close_at i (omega arith)).tells (close_at j v).tells e in
        never (in_order x y) (rises items blank l.ascending i j u v) (ap (in_order x) (sym same) ∙ in_order_total.irreflexive x))

pub near : (F : Numbers) (αs vs rs h₁ h₂ : List ℕ) (k τ : ℕ) (pairs : List Pair) (items : List Candidate)
    → ListsSifted F αs vs rs h₁ h₂ k τ pairs items → ListsNear F αs vs rs h₁ h₂ k τ pairs items
near F αs vs rs h₁ h₂ k τ pairs items sifted C d s ℓ sum A T e₁ e₂ right =
    let l : Lists in_order (Close F C k (poly F rs) τ) items =
    restate (sifted C d) (to_near F rs h₁ h₂ k τ C sum A T e₁ e₂ pairs right) (to_sifted F rs h₁ h₂ k τ C sum A T e₁ e₂ pairs right) in
    (l, short F rs h₁ h₂ k τ C sum A T e₁ e₂ pairs right items l)
