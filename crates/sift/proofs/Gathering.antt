-- The turns of the loops that gather places, write a codeword and compare it.
use Rattle.std.proofs.Common.{◌≡◌, ℕ, ◌+◌, ◌<◌, ◌≤◌, Bool, true, false, cond, eqb, ◌≢◌, List, length, get_or, set, sym, refl, ap, ◌∙◌, subst, arith, get_or-set_other, get_or-set_same, eq-eqb, ne_eqb}
use native.Mathlib.Decide.{ℕ_discrete, dec_lt}
use Rattle.algebra.specs.Sums.{count}
use Rattle.fields.specs.Numbers.{Numbers, AllBelow, elem, times, elem_mul}
use Rattle.polynomials.specs.Series.{poly, value}
use Rattle.polynomials.proofs.Readings.{all_at}
use Rattle.sift.specs.Received.{Ends}
use Rattle.sift.specs.Roots.{vanishes}
use Rattle.sift.specs.Reading.{Places, Gathered, differs}
use Rattle.sift.proofs.Counts.{each_more, count_none, count_more}

-- one place more
put : (ℕ → ℕ) → ℕ → ℕ → ℕ → ℕ
put f m n i = cond (eqb i m) n (f i)

put_same : (f : ℕ → ℕ) (m n : ℕ) → put f m n m ≡ n
unfolding put
put_same f m n = ap (λ (t : Bool). cond t n (f m)) (eq-eqb m m refl)

put_other : (f : ℕ → ℕ) (m n i : ℕ) → i < m → put f m n i ≡ f i
unfolding put
put_other f m n i h = ap (λ (t : Bool). cond t n (f i)) (ne_eqb i m (λ e. let z : i ≡ m = e in omega arith))

pub places_none : (values : List ℕ) → Places values 0 0
places_none values =
    record {
      place = λ i. i;
      inside = λ i u. absurd (let z : i < 0 = u in omega arith);
      rising = λ i j u v. absurd (let z : j < 0 = v in omega arith);
      nonzero = λ i u. absurd (let z : i < 0 = u in omega arith);
    }

places_skip : {values : List ℕ} {n m : ℕ} → Places values n m → Places values (n + 1) m
places_skip p =
    record {
      place = p.place;
      inside = λ i u. let h = p.inside i u in omega arith;
      rising = p.rising;
      nonzero = p.nonzero;
    }

-- what holds of the places so far, and of n, holds of each
put_each : (P : ℕ → ℕ → Type 0) (f : ℕ → ℕ) (m n : ℕ) → ((i : ℕ) → i < m → P i (f i)) → P m n → (i : ℕ) → i < m + 1 → P i (put f m n i)
put_each P f m n h p i u = go (ℕ_discrete i m)
  where
    go : Dec (i ≡ m) → P i (put f m n i)
    go (yes e) = subst (λ (j : ℕ). P j (put f m n j)) (sym e) (subst (P m) (sym (put_same f m n)) p)
    go (no e) = subst (P i) (sym (put_other f m n i (omega arith))) (h i (omega arith))

places_more : {values : List ℕ} {n m : ℕ} → Places values n m → get_or values n 0 ≢ 0 → Places values (n + 1) (m + 1)
places_more {values} {n} {m} p nz =
    record {
      place = put p.place m n;
      inside = put_each (λ i j. j < n + 1) p.place m n (λ i u. let h = p.inside i u in omega arith) (omega arith);
      rising = λ i j u v. go i j u v (ℕ_discrete j m);
      nonzero = put_each (λ i j. get_or values j 0 ≢ 0) p.place m n p.nonzero nz;
    }
  where
    go : (i j : ℕ) → i < j → j < m + 1 → Dec (j ≡ m) → put p.place m n i < put p.place m n j
    go i j u v (yes e) =
        let a : put p.place m n i ≡ p.place i = put_other p.place m n i (omega arith) in
        let b : put p.place m n j ≡ n = ap (put p.place m n) e ∙ put_same p.place m n in
        let h : p.place i < n = p.inside i (omega arith) in
        omega arith
    go i j u v (no e) =
        let a : put p.place m n i ≡ p.place i = put_other p.place m n i (omega arith) in
        let b : put p.place m n j ≡ p.place j = put_other p.place m n j (omega arith) in
        let h : p.place i < p.place j = p.rising i j u (omega arith) in
        omega arith

module _ (F : Numbers) (αs vs rs values : List ℕ) where
  pub gathered_none : (xs ys : List ℕ) → Gathered F αs vs rs values 0 0 xs ys
  gathered_none xs ys =
      record {
        places = places_none values;
        points = λ i u. absurd (let z : i < 0 = u in omega arith);
        quotients = λ i u. absurd (let z : i < 0 = u in omega arith);
      }

  pub gathered_skip : {n m : ℕ} {xs ys : List ℕ} → Gathered F αs vs rs values n m xs ys → Gathered F αs vs rs values (n + 1) m xs ys
  unfolding places_skip
  gathered_skip g = record { places = places_skip g.places; points = g.points; quotients = g.quotients }

  pub gathered_more : {n m : ℕ} {xs ys : List ℕ} (x y : ℕ) → Gathered F αs vs rs values n m xs ys → m < length xs → m < length ys
      → get_or values n 0 ≢ 0 → x ≡ get_or αs n 0 → y ≡ F.mul (get_or rs n 0) (F.inv (get_or vs n 0))
      → Gathered F αs vs rs values (n + 1) (m + 1) (set xs m x) (set ys m y)
  unfolding places_more
  gathered_more {n} {m} {xs} {ys} x y g lx ly nz ex ey =
      let f : ℕ → ℕ = g.places.place in
      let Q : ℕ → ℕ = λ j. F.mul (get_or rs j 0) (F.inv (get_or vs j 0)) in
      record {
        places = places_more g.places nz;
        points = λ i u.
            each_more (λ k v. v ≡ get_or αs (put f m n k) 0) xs m x lx
            (λ k h. g.points k h ∙ ap (λ (j : ℕ). get_or αs j 0) (sym (put_other f m n k h)))
            (ex ∙ ap (λ (j : ℕ). get_or αs j 0) (sym (put_same f m n))) i u;
        quotients = λ i u.
            each_more (λ k v. v ≡ Q (put f m n k)) ys m y ly
            (λ k h. g.quotients k h ∙ ap Q (sym (put_other f m n k h)))
            (ey ∙ ap Q (sym (put_same f m n))) i u;
      }

  -- What holds before the turn at j, where k places are wanted: i of them are gathered, and as long as some are missing there is none else
  abbrev pub Gathering : ℕ → ℕ → ℕ → List ℕ → List ℕ → Type 0
  Gathering k j i xs ys =
      Gathered F αs vs rs values j i xs ys × (i ≤ k) × (i < k → i + count j (vanishes values) ≡ j)

  pub gathering_none : (k : ℕ) (xs ys : List ℕ) → Gathering k 0 0 xs ys
  gathering_none k xs ys = (gathered_none xs ys, omega arith, λ _. let z : count 0 (vanishes values) ≡ 0 = count_none (vanishes values) in omega arith)

  pub gathering_take : {k j i : ℕ} {xs ys : List ℕ} (i' x y : ℕ) (xs' ys' : List ℕ) → Gathering k j i xs ys → i < k → k ≡ length xs → k ≡ length ys
      → get_or values j 0 ≢ 0 → x ≡ get_or αs j 0 → y ≡ F.mul (get_or rs j 0) (F.inv (get_or vs j 0))
      → i' ≡ i + 1 → xs' ≡ set xs i x → ys' ≡ set ys i y → Gathering k (j + 1) i' xs' ys'
  gathering_take {k} {j} {i} {xs} {ys} i' x y xs' ys' t l lx ly nz ex ey ei exs eys = (
    subst (λ (m : ℕ). Gathered F αs vs rs values (j + 1) m xs' ys') (sym ei)
        (subst (λ (z : List ℕ). Gathered F αs vs rs values (j + 1) (i + 1) z ys') (sym exs)
        (subst (λ (z : List ℕ). Gathered F αs vs rs values (j + 1) (i + 1) (set xs i x) z) (sym eys)
        (gathered_more x y t.0 (omega arith) (omega arith) nz ex ey))),
    omega arith,
    λ u.
        let a = t.2 l in
        let b : count (j + 1) (vanishes values) ≡ count j (vanishes values) + 0 = count_more (vanishes values) j false (ne_eqb (get_or values j 0) 0 nz) in
        omega arith,
  )

  -- a place that is not gathered: there are enough already, or it is a root
  pub gathering_pass : {k j i : ℕ} {xs ys : List ℕ} (i' : ℕ) (xs' ys' : List ℕ) → Gathering k j i xs ys → (i < k → get_or values j 0 ≡ 0)
      → i' ≡ i → xs' ≡ xs → ys' ≡ ys → Gathering k (j + 1) i' xs' ys'
  gathering_pass {k} {j} {i} {xs} {ys} i' xs' ys' t h ei exs eys = (
    subst (λ (m : ℕ). Gathered F αs vs rs values (j + 1) m xs' ys') (sym ei)
        (subst (λ (z : List ℕ). Gathered F αs vs rs values (j + 1) i z ys') (sym exs)
        (subst (λ (z : List ℕ). Gathered F αs vs rs values (j + 1) i xs z) (sym eys) (gathered_skip t.0))),
    (let a = t.1 in omega arith),
    λ u.
        let l : i < k = omega arith in
        let a = t.2 l in
        let b : count (j + 1) (vanishes values) ≡ count j (vanishes values) + 1 = count_more (vanishes values) j true (eq-eqb (get_or values j 0) 0 (h l)) in
        omega arith,
  )

  pub gathering_done : {k j i : ℕ} {xs ys : List ℕ} (n : ℕ) → Gathering k j i xs ys → j ≡ n → k + count n (vanishes values) ≤ n
      → Gathered F αs vs rs values n k xs ys
  gathering_done {k} {j} {i} {xs} {ys} n t e h =
      subst (λ (m : ℕ). Gathered F αs vs rs values m k xs ys) e (subst (λ (m : ℕ). Gathered F αs vs rs values j m xs ys) (full (dec_lt i k)) t.0)
    where
      full : Dec (i < k) → i ≡ k
      full (yes l) =
          absurd (let a = t.2 l in let b : count j (vanishes values) ≡ count n (vanishes values) = ap (λ (m : ℕ). count m (vanishes values)) e in omega arith)
      full (no l) = let a = t.1 in omega arith

module _ (F : Numbers) where
  -- What holds before the turn at j: the word up to j
  pub record Writing (αs vs message : List ℕ) (j : ℕ) (word : List ℕ) : Type 0 where
    pub all : AllBelow F.q word
    pub ends : Ends j word
    pub is : (k : ℕ) → k < j → elem F (get_or word k 0) ≡ times F (elem F (get_or vs k 0)) (value F (length message) (poly F message) (get_or αs k 0))

  pub writing_more : {αs vs message : List ℕ} {j : ℕ} {word : List ℕ} (e w : ℕ) → Writing αs vs message j word → j < length word
      → AllBelow F.q vs → e < F.q → elem F e ≡ value F (length message) (poly F message) (get_or αs j 0)
      → w ≡ F.mul (get_or vs j 0) e → Writing αs vs message (j + 1) (set word j w)
  writing_more {αs} {vs} {message} {j} {word} e w t l hv he ee ew =
      record {
        all = λ k u. all_set k (ℕ_discrete k j);
        ends = λ k u. get_or-set_other word j k w 0 (omega arith) ∙ t.ends k (omega arith);
        is = each_more (λ k v. elem F v ≡ times F (elem F (get_or vs k 0)) (value F (length message) (poly F message) (get_or αs k 0))) word j w l t.is
            (ap (elem F) ew ∙ elem_mul F (get_or vs j 0) e (all_at F vs hv j) he ∙ ap (times F (elem F (get_or vs j 0))) ee);
      }
    where
      all_set : (k : ℕ) → Dec (k ≡ j) → get_or (set word j w) k 0 < F.q
      all_set k (yes p) =
          subst (λ (n : ℕ). n < F.q) (sym (ap (λ (i : ℕ). get_or (set word j w) i 0) p ∙ get_or-set_same word j w 0 l ∙ ew)) (F.laws.mul_below _ _)
      all_set k (no p) = subst (λ (n : ℕ). n < F.q) (sym (get_or-set_other word j k w 0 p)) (all_at F word t.all k)

pub differs_yes : (xs ys : List ℕ) (j : ℕ) → (get_or xs j 0 ≡ get_or ys j 0 → ⊥) → differs xs ys j ≡ true
differs_yes xs ys j h = ap (λ (t : Bool). cond t false true) (ne_eqb (get_or xs j 0) (get_or ys j 0) h)

pub differs_no : (xs ys : List ℕ) (j : ℕ) → get_or xs j 0 ≡ get_or ys j 0 → differs xs ys j ≡ false
differs_no xs ys j h = ap (λ (t : Bool). cond t false true) (eq-eqb (get_or xs j 0) (get_or ys j 0) h)
