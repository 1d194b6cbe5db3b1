-- The loops over the constraints, turn by turn.
use Rattle.std.proofs.Common.{◌≡◌, ℕ, suc, ◌+◌, ◌-◌, ◌*◌, ◌<◌, ◌≤◌, List, length, get_or, sym, ap, ◌∙◌, subst, ap₂, add-one, arith}
use Rattle.fields.specs.Numbers.{Numbers, Element, elem, ring_of, field_of}
use Rattle.polynomials.specs.Series.{poly}
use Rattle.polynomials.proofs.Readings.{poly_at}
use Rattle.decoding.specs.Koetter.{Problem, Invariant, Add, Upto, steps}
use Rattle.decoding.specs.Multiplicity.{Slope, slope, expansion}
use Rattle.decoding.proofs.Koetter.{weaken, kept_by_step}
use Rattle.decoding.proofs.Count.{upto_closed, upto_next, upto_more, upto_row, upto_place, steps_row, steps_place}
use Rattle.functionals.specs.Runs.{run}
use Rattle.functionals.specs.Tables.{Taylor, TaylorTable, WeightTable}
use Rattle.functionals.proofs.Runs.{run_long}
use Rattle.elimination.specs.declared.Tableau.{Tableau}
use Rattle.elimination.specs.Tableaus.{SameAreas}
use Rattle.elimination.specs.Stepping.{rows_of, exponents, Meets, Stepped}
use Rattle.interpolant.specs.States.{State, Reached, Orders, PlaceOf, Passed}

pub same_areas : {t t' t'' : Tableau} → SameAreas t t' → SameAreas t' t'' → SameAreas t t''
same_areas a b =
    record { rows = b.rows ∙ a.rows; ranks = b.ranks ∙ a.ranks; values = b.values ∙ a.values; pivot = b.pivot ∙ a.pivot }

module _ (F : Numbers) where
  module _ (P : Problem (Element F)) where
    -- fewer constraints, and another way to count the steps
    pub moved : (D D' : ℕ → ℕ → ℕ → Type 0) (n n' : ℕ) (rows ranks : List ℕ) → ((i a b : ℕ) → D' i a b → D i a b) → n ≡ n'
        → State F P D n rows ranks → State F P D' n' rows ranks
    moved D D' n n' rows ranks f q v =
        record {
          ranked = v.ranked;
          holds = weaken (field_of F) P D D' n' (rows_of F P rows) (exponents F P ranks) f
              (subst (λ (z : ℕ). Invariant (field_of F) P D z (rows_of F P rows) (exponents F P ranks)) q v.holds);
        }

    pub reach_turn : (s i b a α : ℕ) (xs cs rows ranks rows' ranks' : List ℕ) → a + b < s → Meets F P i a b α xs cs
        → Stepped F α xs cs rows ranks rows' ranks' → Reached F P s i b a rows ranks → Reached F P s i b (a + 1) rows' ranks'
    reach_turn s i b a α xs cs rows ranks rows' ranks' h m d v =
        subst (λ (z : ℕ). Reached F P s i b z rows' ranks') (sym (add-one a))
        (moved (Add (Upto s i b a) i a b) (Upto s i b (suc a)) (suc (steps s i b a)) (steps s i b (suc a)) rows' ranks' (upto_more s i b a) (omega arith)
        (record {
          ranked = d.ranked P v.ranked;
          holds =
              kept_by_step (field_of F) P (Upto s i b a) (steps s i b a) i a b (rows_of F P rows) (exponents F P ranks) (rows_of F P rows') (exponents F P ranks')
              (upto_closed s i b a) (upto_next s i b a h) v.holds (d.step P i a b m v.ranked);
        }))

    pub reach_row : (s i b : ℕ) (rows ranks : List ℕ) → Reached F P s i b (s - b) rows ranks → Reached F P s i (b + 1) 0 rows ranks
    reach_row s i b rows ranks v =
        subst (λ (z : ℕ). Reached F P s i z 0 rows ranks) (sym (add-one b))
        (moved (Upto s i b (s - b)) (Upto s i (suc b) 0) (steps s i b (s - b)) (steps s i (suc b) 0) rows ranks (upto_row s i b) (steps_row s i b) v)

    pub reach_place : (s i : ℕ) (rows ranks : List ℕ) → Reached F P s i s 0 rows ranks → Reached F P s (suc i) 0 0 rows ranks
    reach_place s i rows ranks v =
        moved (Upto s i s 0) (Upto s (suc i) 0 0) (steps s i s 0) (steps s (suc i) 0 0) rows ranks (upto_place s i) (steps_place s i) v

  -- one order more
  pub orders_turn : (B α a : ℕ) (taylor cs xs rows₀ ranks₀ rows ranks rows' ranks' : List ℕ) → TaylorTable F α B taylor → a * B + B ≤ length taylor
      → xs ≡ run B taylor a → Stepped F α xs cs rows ranks rows' ranks' → Orders F B α cs a rows₀ ranks₀ rows ranks
      → Orders F B α cs (a + 1) rows₀ ranks₀ rows' ranks'
  orders_turn B α a taylor cs xs rows₀ ranks₀ rows ranks rows' ranks' t h e d f P s i b l o v =
      reach_turn P s i b a α xs cs rows ranks rows' ranks' (omega arith)
      (record {
        degree = o.degree;
        bound = o.bound ∙ sym (ap length e ∙ run_long B taylor a h);
        place = o.place;
        orders = subst (Taylor F α a) (sym e) (t.row a h);
        weights = o.weights;
      })
      d (f P s i b (omega arith) o v)

  -- one row of weights more
  abbrev pub Row : (count B α s b : ℕ) → (weights rows ranks rows' ranks' : List ℕ) → Type 0
  Row count B α s b weights rows ranks rows' ranks' =
      (σ : Slope (Element F)) → WeightTable F σ count weights → (P : Problem (Element F)) (i : ℕ) → PlaceOf F P count B i α σ
      → Reached F P s i 0 0 rows ranks → Reached F P s i b 0 rows' ranks'

  pub row_turn : (count B α s b : ℕ) (weights cs rows₀ ranks₀ rows ranks rows' ranks' : List ℕ) → b < s → b * count + count ≤ length weights
      → cs ≡ run count weights b → Orders F B α cs (s - b) rows ranks rows' ranks' → Row count B α s b weights rows₀ ranks₀ rows ranks
      → Row count B α s (b + 1) weights rows₀ ranks₀ rows' ranks'
  row_turn count B α s b weights cs rows₀ ranks₀ rows ranks rows' ranks' l h e d f σ w P i o v =
      reach_row P s i b rows' ranks'
      (d P s i b (omega arith)
      (record {
        degree = o.degree ∙ sym (ap length e ∙ run_long count weights b h);
        bound = o.bound;
        place = o.place;
        weights = λ t k.
            ap (λ (l : List ℕ). poly F l t) e
            ∙ (w.row b h).is t (let u = run_long count weights b h in let v = o.degree in omega arith)
            ∙ ap (λ (n : ℕ). expansion (ring_of F) n σ b t)
            (let u = run_long count weights b h in let v = o.degree in let z : length (run count weights b) - 1 ≡ P.ℓ = omega arith in z)
            ∙ o.weights b t;
      })
      (f σ w P i o v))

  -- one place more
  abbrev pub Through : (count B s k : ℕ) → (points ys zs rows ranks rows' ranks' : List ℕ) → Type 0
  Through count B s k points ys zs rows ranks rows' ranks' =
      (P : Problem (Element F))
      → ((i : ℕ) → i < length points → PlaceOf F P count B i (get_or points i 0) (slope (field_of F) (poly F ys i) (poly F zs i)))
      → Reached F P s 0 0 0 rows ranks → Reached F P s k 0 0 rows' ranks'

  pub through_turn : (count B s k : ℕ) (points ys zs weights rows₀ ranks₀ rows ranks rows' ranks' : List ℕ) (σ : Slope (Element F)) → k < length points
      → WeightTable F σ count weights → σ ≡ slope (field_of F) (elem F (get_or ys k 0)) (elem F (get_or zs k 0))
      → Passed F count B (get_or points k 0) s weights rows ranks rows' ranks'
      → Through count B s k points ys zs rows₀ ranks₀ rows ranks → Through count B s (k + 1) points ys zs rows₀ ranks₀ rows' ranks'
  through_turn count B s k points ys zs weights rows₀ ranks₀ rows ranks rows' ranks' σ h w e d f P o v =
      subst (λ (z : ℕ). Reached F P s z 0 0 rows' ranks') (sym (add-one k))
      (d σ w P k (subst (PlaceOf F P count B k (get_or points k 0)) (sym same) (o k h)) (f P o v))
    where
      same : σ ≡ slope (field_of F) (poly F ys k) (poly F zs k)
      same = e ∙ sym (ap₂ (slope (field_of F)) (poly_at F ys k) (poly_at F zs k))
