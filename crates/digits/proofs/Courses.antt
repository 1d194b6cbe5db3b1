-- A walk from the visits of its parts.
use Rattle.std.proofs.Common.{◌≡◌, ℕ, suc, ◌+◌, ◌<◌, ◌≤◌, ◌≢◌, ◌⊎◌, List, [], ◌∷◌, ◌++◌, length, get_or, take, drop, sym, refl, ap, ◌∙◌, subst, ap₂, inl, inr, add-one, arith}
use native.Mathlib.Decide.{ℕ_discrete}
use Rattle.std.proofs.lemmas.List.{take_all, take-take, drop_all, drop_more, take_more, take_at, get_or-take, get_or_at}
use Rattle.algebra.specs.Poly.{at}
use Rattle.algebra.specs.PolyRing.{Poly}
use Rattle.algebra.specs.Taylor.{taylor}
use Rattle.fields.specs.Numbers.{Numbers, Element, elem, ring_of}
use Rattle.rolls.specs.Order.{Has}
use Rattle.digits.specs.Runs.{term}
use Rattle.digits.specs.Digits.{Allowed, Decides, Among}
use Rattle.digits.specs.Walks.{Chain, Steps, Ends, Walked}

module _ {S : Type 0} (visits : S → List ℕ → S → Type 0) where
  chain_append : (ds es : List (List ℕ)) (s m s' : S) → Chain visits s ds m → Chain visits m es s' → Chain visits s (ds ++ es) s'
  chain_append [] es s m s' c k = subst (λ (z : S). Chain visits z es s') (sym c) k
  chain_append (d ∷ ds) es s m s' c k = (c.0, c.1, chain_append ds es c.0 m s' c.2 k)

  has_append : (d : List ℕ) (xs ys : List (List ℕ)) → Has d (xs ++ ys) → Has d xs ⊎ Has d ys
  has_append d [] ys h = inr h
  has_append d (x ∷ xs) ys (inl e) = inl (inl e)
  has_append d (x ∷ xs) ys (inr h) = elim (has_append d xs ys h) [ inl k ↦ inl (inr k) | inr k ↦ inr k ]

  append_has : (d : List ℕ) (xs ys : List (List ℕ)) → Has d xs ⊎ Has d ys → Has d (xs ++ ys)
  append_has d [] ys (inl h) = elim h [ ]
  append_has d [] ys (inr h) = h
  append_has d (x ∷ xs) ys (inl (inl e)) = inl e
  append_has d (x ∷ xs) ys (inl (inr h)) = inr (append_has d xs ys (inl h))
  append_has d (x ∷ xs) ys (inr h) = inr (append_has d xs ys (inr h))

  -- the same leaves, said in other words
  pub walked_as : {P Q : List ℕ → Type 0} {s s' : S} → Walked visits P s s' → ((d : List ℕ) → P d → Q d) → ((d : List ℕ) → Q d → P d) → Walked visits Q s s'
  walked_as w f g =
      record { leaves = w.leaves; chain = w.chain; sound = λ d h. f d (w.sound d h); complete = λ d q. w.complete d (g d q) }

  -- one walk after another
  pub walked_then : {P Q : List ℕ → Type 0} {s m s' : S} → Walked visits P s m → Walked visits Q m s' → Walked visits (λ (d : List ℕ). P d ⊎ Q d) s s'
  walked_then {P} {Q} {s} {m} {s'} v w =
      record {
        leaves = v.leaves ++ w.leaves;
        chain = chain_append v.leaves w.leaves s m s' v.chain w.chain;
        sound = λ d h. elim (has_append d v.leaves w.leaves h) [ inl k ↦ inl (v.sound d k) | inr k ↦ inr (w.sound d k) ];
        complete = λ d h. append_has d v.leaves w.leaves (elim h [ inl p ↦ inl (v.complete d p) | inr q ↦ inr (w.complete d q) ]);
      }

  pub walked_none : {P : List ℕ → Type 0} (s : S) → ((d : List ℕ) → P d → ⊥) → Walked visits P s s
  walked_none s f = record { leaves = []; chain = refl; sound = λ d h. elim h [ ]; complete = λ d p. absurd (f d p) }

  pub walked_one : {P : List ℕ → Type 0} (x : List ℕ) {s s' : S} → visits s x s' → P x → ((d : List ℕ) → P d → d ≡ x) → Walked visits P s s'
  walked_one {P} x {s} {s'} v px only =
      record {
        leaves = x ∷ [];
        chain = (s', v, refl);
        sound = λ d h. elim h [ inl e ↦ subst P (sym e) px | inr k ↦ elim k [ ] ];
        complete = λ d p. inl (only d p);
      }

module _ (F : Numbers) (ℓ N t : ℕ) (front : List ℕ) (T : ℕ → ℕ → Element F) where
  -- the array after the digit e
  abbrev pub after : ℕ → ℕ → ℕ → Element F
  after e = taylor (Poly (ring_of F)) (suc ℓ) (term (ring_of F) (elem F e) t) T

  module _ {S : Type 0} (visits : S → List ℕ → S → Type 0) where
    pub at_leaf : (ds : List ℕ) {s s' : S} → t ≡ length ds → N ≡ length ds → front ≡ take t ds → visits s ds s' → Walked visits (Ends F ℓ N t front T) s s'
    at_leaf ds e n f v =
        walked_one visits ds v
        (record { long = sym n; begins = sym f; steps = subst (Steps F ℓ t T) (sym (drop_all t ds (omega arith))) tt })
        (λ d p. sym (take_all t d (let l = p.long in omega arith)) ∙ p.begins ∙ f ∙ take_all t ds (omega arith))

  -- an end has an allowed digit at t, and goes on
  head : (d : List ℕ) → t < N → Ends F ℓ N t front T d → (get_or d t 0 < F.q) × Allowed (ring_of F) ℓ t T (elem F (get_or d t 0)) × Steps F ℓ (suc t) (after (get_or d t 0)) (drop (t + 1) d)
  head d h p = subst (Steps F ℓ t T) (drop_more d t 0 (let l = p.long in omega arith)) p.steps

  module _ (n : ℕ) (p : ℕ → Element F) (dec : Decides (ring_of F) ℓ t T n p) (inside : t < N) where
    root : (d : List ℕ) → Ends F ℓ N t front T d → at (ring_of F) (elem F (get_or d t 0)) n p ≡ (ring_of F).𝟘
    root d x = dec.roots (elem F (get_or d t 0)) (head d inside x).1

    -- so far, with the digits at t below e
    abbrev pub Upto : ℕ → List ℕ → Type 0
    Upto e d = Ends F ℓ N t front T d × (get_or d t 0 < e)

    module _ {S : Type 0} (visits : S → List ℕ → S → Type 0) where
      pub at_start : (from to : ℕ) (s : S) → Among F n p from to → Walked visits (Upto from) s s
      at_start from to s a = walked_none visits s (λ d x. let least = a.least (get_or d t 0) (head d inside x.0).0 (root d x.0) in let u = x.1 in omega arith)

      pub at_skip : (e : ℕ) {s s' : S} → at (ring_of F) (elem F e) n p ≢ (ring_of F).𝟘 → Walked visits (Upto e) s s' → Walked visits (Upto (e + 1)) s s'
      at_skip e nz w = walked_as visits w (λ d x. (x.0, let u = x.1 in omega arith)) (λ d x. (x.0, go d x (ℕ_discrete (get_or d t 0) e)))
        where
          go : (d : List ℕ) (x : Upto (e + 1) d) → Dec (get_or d t 0 ≡ e) → get_or d t 0 < e
          go d x (yes q) = absurd (nz (subst (λ (k : ℕ). at (ring_of F) (elem F k) n p ≡ (ring_of F).𝟘) q (root d x.0)))
          go d x (no q) = let u = x.1 in omega arith

      pub at_end : (from to e : ℕ) {s s' : S} → Among F n p from to → to ≤ e → Walked visits (Upto e) s s' → Walked visits (Ends F ℓ N t front T) s s'
      at_end from to e a h w =
          walked_as visits w (λ d x. x.0) (λ d x. (x, let most = a.most (get_or d t 0) (head d inside x).0 (root d x) in omega arith))

      module _ (e : ℕ) (he : e < F.q) (zero_at : at (ring_of F) (elem F e) n p ≡ (ring_of F).𝟘) (front' : List ℕ) (begins : front' ≡ front ++ e ∷ []) (long_front : length front ≡ t) where
        down : (d : List ℕ) → Ends F ℓ N t front T d → get_or d t 0 ≡ e → Ends F ℓ N (t + 1) front' (after e) d
        down d x q =
            let l = x.long in
            record {
              long = x.long;
              begins = take_more d t 0 (omega arith) ∙ ap₂ (λ (a : List ℕ) (b : ℕ). a ++ b ∷ []) x.begins q ∙ sym begins;
              steps =
                  subst (λ (k : ℕ). Steps F ℓ k (after e) (drop (t + 1) d)) (sym (add-one t))
                  (subst (λ (k : ℕ). Steps F ℓ (suc t) (after k) (drop (t + 1) d)) q (head d inside x).2);
            }

        digit : (d : List ℕ) → Ends F ℓ N (t + 1) front' (after e) d → get_or d t 0 ≡ e
        digit d x =
            sym (get_or-take (t + 1) d t 0 (omega arith))
            ∙ ap (λ (z : List ℕ). get_or z t 0) (x.begins ∙ begins)
            ∙ get_or_at front e [] 0 t long_front

        back : (d : List ℕ) → Ends F ℓ N (t + 1) front' (after e) d → Ends F ℓ N t front T d
        back d x =
            let l = x.long in
            let q = digit d x in
            record {
              long = x.long;
              begins =
                  sym (take-take t (t + 1) d (omega arith)) ∙ ap (take t) (x.begins ∙ begins) ∙ take_at front (e ∷ []) t long_front;
              steps =
                  subst (Steps F ℓ t T) (sym (drop_more d t 0 (omega arith) ∙ ap (λ (k : ℕ). k ∷ drop (t + 1) d) q))
                  (he, dec.allowed (elem F e) zero_at, subst (λ (k : ℕ). Steps F ℓ k (after e) (drop (t + 1) d)) (add-one t) x.steps);
            }

        pub at_root : {s m s' : S} → Walked visits (Upto e) s m → Walked visits (Ends F ℓ N (t + 1) front' (after e)) m s' → Walked visits (Upto (e + 1)) s s'
        at_root v w =
            walked_as visits (walked_then visits v w)
            (λ d z. elim z [
              | inl x ↦ (x.0, let u = x.1 in omega arith)
              | inr x ↦ (back d x, let q = digit d x in omega arith)
            ])
            (λ d x. split d x (ℕ_discrete (get_or d t 0) e))
          where
            split : (d : List ℕ) (x : Upto (e + 1) d) → Dec (get_or d t 0 ≡ e) → Upto e d ⊎ Ends F ℓ N (t + 1) front' (after e) d
            split d x (yes q) = inr (down d x.0 q)
            split d x (no q) = inl (x.0, let u = x.1 in omega arith)
