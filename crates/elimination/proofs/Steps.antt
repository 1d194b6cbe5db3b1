-- What a step does to the lists is a step of the iteration.
use Rattle.std.proofs.Common.{◌≡◌, ℕ, suc, ◌+◌, ◌-◌, ◌*◌, ◌<◌, ◌≤◌, ◌≢◌, List, length, get_or, set, sym, refl, ap, ◌∙◌, subst, ap₂, inl, inr, arith, get_or-set_other, get_or-set_same}
use mathlib.Core.Path.{fun_ext}
use native.Mathlib.Decide.{ℕ_discrete, dec_lt}
use Rattle.algebra.specs.Poly.{conv, lin, padd, scale}
use Rattle.algebra.specs.RingLaws as L
use Rattle.fields.specs.Numbers.{Numbers, AllBelow, Element, elem, pos, plus, minus, times, ring_of, field_of, elem_mul, elem_inv, elem_neg, elem_inj}
use Rattle.polynomials.specs.Series.{poly, plus_multiple}
use Rattle.polynomials.proofs.Readings.{all_at}
use Rattle.decoding.specs.Koetter.{Problem, Live, value, None, Least, Pivot}
use Rattle.decoding.specs.Multiplicity.{functional}
use Rattle.functionals.specs.Runs.{run, family}
use Rattle.functionals.proofs.Runs.{run_room, family_at, family_past}
use Rattle.elimination.specs.Choice.{NoneFails, LeastFails}
use Rattle.elimination.specs.Rows.{Measured, Swept, Advanced, Stored, Pivoted, ratio}
use Rattle.elimination.specs.Stepping.{rows_of, exponents, Ranked, Meets, Stepped}

module _ (F : Numbers) where
  -- lists that are read alike have the same runs
  pub family_cong : (B : ℕ) (xs ys : List ℕ) → poly F xs ≡ poly F ys → (t m : ℕ) → family F B xs t m ≡ family F B ys t m
  family_cong B xs ys e t m = go (dec_lt m B)
    where
      go : Dec (m < B) → family F B xs t m ≡ family F B ys t m
      go (yes l) = family_at F B xs t m l ∙ ap (λ (p : ℕ → Element F). p (t * B + m)) e ∙ sym (family_at F B ys t m l)
      go (no l) = family_past F B xs t m (omega arith) ∙ sym (family_past F B ys t m (omega arith))

  -- row + n pivot, where n is the opposite of v
  family_less : (B : ℕ) (row pivot after : List ℕ) (v : ℕ) → v < F.q → poly F after ≡ plus_multiple F (poly F row) (F.neg v) (poly F pivot) → (t m : ℕ)
      → family F B after t m ≡ plus F (family F B row t m) (minus F (times F (elem F v) (family F B pivot t m)))
  unfolding padd scale
  family_less B row pivot after v h e t m = go (dec_lt m B)
    where
      minused : (x : Element F) → times F (elem F (F.neg v)) x ≡ minus F (times F (elem F v) x)
      minused x = ap (λ z. times F z x) (elem_neg F v h) ∙ L.neg_mul (ring_of F) (elem F v) x

      go : Dec (m < B) → family F B after t m ≡ plus F (family F B row t m) (minus F (times F (elem F v) (family F B pivot t m)))
      go (yes l) =
          family_at F B after t m l ∙ ap (λ (p : ℕ → Element F). p (t * B + m)) e
          ∙ ap₂ (plus F) (sym (family_at F B row t m l))
          (minused (poly F pivot (t * B + m)) ∙ ap (λ z. minus F (times F (elem F v) z)) (sym (family_at F B pivot t m l)))
      go (no l) =
          family_past F B after t m (omega arith)
          ∙ sym (ap₂ (λ y z. plus F y (minus F (times F (elem F v) z))) (family_past F B row t m (omega arith)) (family_past F B pivot t m (omega arith))
          ∙ ap (λ z. plus F (elem F 0) (minus F z)) (L.mul_zero (ring_of F) (elem F v))
          ∙ ap (plus F (elem F 0)) (L.neg_zero (ring_of F)) ∙ (ring_of F).add_zero (elem F 0))

  ratio_is : (values : List ℕ) (p j : ℕ) → AllBelow F.q values → elem F (F.mul (get_or values j 0) (F.inv (get_or values p 0))) ≡ ratio F values p j
  ratio_is values p j all =
      elem_mul F (get_or values j 0) (F.inv (get_or values p 0)) (all_at F values all j) (F.laws.inv_below _)
      ∙ ap (times F (elem F (get_or values j 0))) (elem_inv F (get_or values p 0) (all_at F values all p))

  ratio_times : (values : List ℕ) (p j : ℕ) → elem F (get_or values p 0) ≢ elem F 0
      → times F (ratio F values p j) (elem F (get_or values p 0)) ≡ elem F (get_or values j 0)
  ratio_times values p j n =
      (ring_of F).mul_assoc _ _ _
      ∙ ap (times F (elem F (get_or values j 0))) ((ring_of F).mul_comm _ _ ∙ (field_of F).mul_inv (elem F (get_or values p 0)) n)
      ∙ (ring_of F).mul_one _

  -- a sweep, seen from the runs of the rows
  module _ (B : ℕ) (rows pivot values swept : List ℕ) (p : ℕ) (all : AllBelow F.q values) (s : Swept F (length pivot) rows pivot values p swept)
      (fetched : poly F pivot ≡ poly F (run (length pivot) rows p)) where
    swept_others : (j : ℕ) → j < length values → j ≢ p → (t m : ℕ)
        → family F B (run (length pivot) swept j) t m
        ≡ plus F (family F B (run (length pivot) rows j) t m) (minus F (times F (ratio F values p j) (family F B (run (length pivot) rows p) t m)))
    swept_others j l n t m =
        family_less B (run (length pivot) rows j) pivot (run (length pivot) swept j) (F.mul (get_or values j 0) (F.inv (get_or values p 0)))
        (F.laws.mul_below _ _) (s.others j l n) t m
        ∙ ap₂ (λ y z. plus F (family F B (run (length pivot) rows j) t m) (minus F (times F y z))) (ratio_is values p j all)
        (family_cong B pivot (run (length pivot) rows p) fetched t m)

    -- the pivot dies
    pub pivoted_dead : (α : ℕ) (ranks : List ℕ) → B ≤ suc (get_or ranks p 0)
        → Pivoted F (length pivot) B α rows ranks values p swept (set ranks p (get_or ranks p 0 + 1))
    pivoted_dead α ranks dead =
        record { below = s.below; others = swept_others; pivot = λ h. absurd (omega arith); raised = refl }

    -- or goes on, and returns to its place
    pub pivoted_live : (α : ℕ) (ranks moved after : List ℕ) → length moved ≡ length pivot → Advanced F B α pivot moved → Stored F swept moved p after
        → Pivoted F (length pivot) B α rows ranks values p after (set ranks p (get_or ranks p 0 + 1))
    pivoted_live α ranks moved after long a d =
        record {
          below = d.below;
          others = λ j l n t m. family_cong B (run (length pivot) after j) (run (length pivot) swept j) (other j n) t m ∙ swept_others j l n t m;
          pivot = λ h t m u v.
              family_cong B (run (length pivot) after p) moved here t m ∙ a.is t m u v
              ∙ ap (λ (q : ℕ → Element F). conv (ring_of F) (lin (ring_of F) (elem F α)) q m) (same t);
          raised = refl;
        }
      where
        other : (j : ℕ) → j ≢ p → poly F (run (length pivot) after j) ≡ poly F (run (length pivot) swept j)
        other j n = subst (λ (k : ℕ). poly F (run k after j) ≡ poly F (run k swept j)) long (d.other j n)

        here : poly F (run (length pivot) after p) ≡ poly F moved
        here = subst (λ (k : ℕ). poly F (run k after p) ≡ poly F moved) long d.here

        same : (t : ℕ) → family F B pivot t ≡ family F B (run (length pivot) rows p) t
        same t = fun_ext (λ m. family_cong B pivot (run (length pivot) rows p) fetched t m)

  -- the numbers of a step, as the theory has them
  module _ (P : Problem (Element F)) (i a b α : ℕ) (xs cs rows ranks values : List ℕ) (f : Meets F P i a b α xs cs) (ranked : Ranked F P ranks)
      (long : length ranks ≡ length cs) (few : length values ≡ length cs) (m : Measured F (length cs * length xs) rows ranks xs cs values) where
    size_is : length cs * length xs ≡ suc P.ℓ * P.B
    size_is = ap₂ (λ (y z : ℕ). y * z) (sym f.degree) (sym f.bound)

    rank_is : (j : ℕ) → j ≤ P.ℓ → exponents F P ranks j + P.W j ≡ get_or ranks j 0
    rank_is j k = let u = ranked j k in omega arith

    in_use : (j : ℕ) → j ≤ P.ℓ → Live (field_of F) P (exponents F P ranks) j → get_or ranks j 0 < length xs
    in_use j k l = let u = rank_is j k in let v = f.bound in omega arith

    value_is : (j : ℕ) → j ≤ P.ℓ → get_or ranks j 0 < length xs → elem F (get_or values j 0) ≡ value (field_of F) P i a b (rows_of F P rows j)
    value_is j k l =
        m.is j (let u = f.degree in omega arith) l P.ℓ α a (P.c i b) f.degree f.orders f.weights
        ∙ ap₂ (λ (n : ℕ) (x : Element F). functional (ring_of F) P.ℓ n x (P.c i b) a (family F n (run (length cs * length xs) rows j))) (sym f.bound) (sym f.place)
        ∙ ap (λ (n : ℕ). functional (ring_of F) P.ℓ P.B (P.α i) (P.c i b) a (family F P.B (run n rows j))) size_is

    fails_is : (j : ℕ) → j ≤ P.ℓ → get_or ranks j 0 < length xs → value (field_of F) P i a b (rows_of F P rows j) ≢ elem F 0 → get_or values j 0 ≢ 0
    fails_is j k l n z = n (sym (value_is j k l) ∙ ap (elem F) z)

    none_is : NoneFails ranks values (length xs) (length ranks) → None (field_of F) P i a b (rows_of F P rows) (exponents F P ranks) (suc P.ℓ)
    none_is h j k l =
        let u : j ≤ P.ℓ = omega arith in
        let v = in_use j u l in
        sym (value_is j u v) ∙ ap (elem F) (h j (let w = f.degree in omega arith) v)

    module _ (p : ℕ) (h : LeastFails ranks values (length xs) (length ranks) p) where
      inside : p ≤ P.ℓ
      inside = let u = f.degree in let v = h.inside in omega arith

      lead : elem F (get_or values p 0) ≢ elem F 0
      lead z = h.fails (elem_inj F (get_or values p 0) 0 (all_at F values m.below p) (pos F) z)

      least_is : Least (field_of F) P i a b (rows_of F P rows) (exponents F P ranks) (suc P.ℓ) p
      least_is =
          record {
            inside = let u = inside in omega arith;
            live = let u = rank_is p inside in let v = f.bound in let w = h.live in omega arith;
            fails = λ z. lead (value_is p inside h.live ∙ z);
            least = λ j k l n.
                let u : j ≤ P.ℓ = omega arith in
                let v = in_use j u l in
                let w = h.least j (let x = f.degree in omega arith) v (fails_is j u v n) in
                let y = rank_is j u in
                let z = rank_is p inside in
                omega arith;
            tie = λ j k l n q.
                let u : j ≤ P.ℓ = omega arith in
                let v = in_use j u l in
                let y = rank_is j u in
                let z = rank_is p inside in
                h.tie j (let x = f.degree in omega arith) v (fails_is j u v n) (omega arith);
          }

      module _ (rows' ranks' : List ℕ) (d : Pivoted F (length cs * length xs) (length xs) α rows ranks values p rows' ranks') where
        same : Pivoted F (suc P.ℓ * P.B) P.B α rows ranks values p rows' ranks'
        same =
            subst (λ (n : ℕ). Pivoted F n P.B α rows ranks values p rows' ranks') size_is
            (subst (λ (n : ℕ). Pivoted F (length cs * length xs) n α rows ranks values p rows' ranks') (sym f.bound) d)

        raised_here : get_or ranks' p 0 ≡ get_or ranks p 0 + 1
        raised_here = ap (λ (l : List ℕ). get_or l p 0) d.raised ∙ get_or-set_same ranks p (get_or ranks p 0 + 1) 0 h.inside

        raised_other : (j : ℕ) → j ≢ p → get_or ranks' j 0 ≡ get_or ranks j 0
        raised_other j n = ap (λ (l : List ℕ). get_or l j 0) d.raised ∙ get_or-set_other ranks p j (get_or ranks p 0 + 1) 0 n

        pivot_is : Pivot (field_of F) P i a b (rows_of F P rows) (exponents F P ranks) (rows_of F P rows') (exponents F P ranks')
        pivot_is =
            record {
              p = p;
              chosen = least_is;
              ratio = ratio F values p;
              ratios = λ j k l n.
                  ap (times F (ratio F values p j)) (sym (value_is p inside h.live)) ∙ ratio_times values p j lead ∙ value_is j k (in_use j k l);
              short = λ j t x k u l. family_past F P.B (run (suc P.ℓ * P.B) rows' j) t x l;
              others = λ j k l n t x u v. same.others j (let w = f.degree in omega arith) n t x;
              pivot = λ l t x u v.
                  same.pivot (let y = rank_is p inside in omega arith) t x (run_room t (suc P.ℓ) P.B (suc P.ℓ * P.B) (omega arith) (omega arith)) v
                  ∙ ap (λ (z : Element F). conv (ring_of F) (lin (ring_of F) z) (rows_of F P rows p t) x) (sym f.place);
              exponent = let u = raised_here in let v = ranked p inside in omega arith;
              exponents = λ j k n. ap (λ (z : ℕ). z - P.W j) (raised_other j n);
            }

  module _ (α : ℕ) (xs cs rows ranks values : List ℕ) (long : length ranks ≡ length cs) (few : length values ≡ length cs)
      (m : Measured F (length cs * length xs) rows ranks xs cs values) where
    pub stepped_none : NoneFails ranks values (length xs) (length ranks) → Stepped F α xs cs rows ranks rows ranks
    stepped_none h =
        record {
          step = λ P i a b f r.
              inl (record {
                none = none_is P i a b α xs cs rows ranks values f r long few m h;
                short = λ j t x k u l. family_past F P.B (run (suc P.ℓ * P.B) rows j) t x l;
                rows = λ j k l t x u v. refl;
                exponents = λ j k. refl;
              });
          ranked = λ P r. r;
        }

    pub stepped_some : (p : ℕ) (rows' ranks' : List ℕ) → LeastFails ranks values (length xs) (length ranks) p
        → Pivoted F (length cs * length xs) (length xs) α rows ranks values p rows' ranks' → Stepped F α xs cs rows ranks rows' ranks'
    stepped_some p rows' ranks' h d =
        record {
          step = λ P i a b f r. inr (pivot_is P i a b α xs cs rows ranks values f r long few m p h rows' ranks' d);
          ranked = λ P r j k. up j (r j k) (ℕ_discrete j p);
        }
      where
        up : (j : ℕ) {w : ℕ} → w ≤ get_or ranks j 0 → Dec (j ≡ p) → w ≤ get_or ranks' j 0
        up j {w} u (yes e) =
            let v : get_or ranks' p 0 ≡ get_or ranks p 0 + 1 =
            ap (λ (l : List ℕ). get_or l p 0) d.raised ∙ get_or-set_same ranks p (get_or ranks p 0 + 1) 0 h.inside in
            subst (λ (z : ℕ). w ≤ get_or ranks' z 0) (sym e) (let x : w ≤ get_or ranks p 0 = subst (λ (z : ℕ). w ≤ get_or ranks z 0) e u in omega arith)
        up j {w} u (no n) =
            subst (λ (z : ℕ). w ≤ z) (sym (ap (λ (l : List ℕ). get_or l j 0) d.raised ∙ get_or-set_other ranks p j (get_or ranks p 0 + 1) 0 n)) u
