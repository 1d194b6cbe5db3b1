-- The library's `find_map` over a range of numbers, where the closure computes a function: the answer of the first number that has one.
use Rattle.std.proofs.Common.{◌≡◌, ℕ, ◌+◌, ◌-◌, ◌<◌, ◌≤◌, Some, None, Option, MatchOption, IfSome, IsSomeAnd, IsTrue, sym, ◌∙◌, subst, arith}
use denote.Param.Members.{Mut}
use Rattle.std.specs.Fn.{Called}
use Rattle.std.specs.Iterator.Runs.{Run, SomeRun, ItemsCountUp, AllItemsGive, IsFirstToGive, CallKeepsClosure}
use Rattle.std.specs.declared.ops.Range.{Range}
use Rattle.std.proofs.iter.Yields.{nat_range_steps}
use Rattle.std.proofs.iter.runs.Sources.{range_runs}
use Rattle.codes.specs.First.{first_of}
use Rattle.codes.proofs.Firsts.{no_first, some_first, same_option}

module _ {F A : Type 0} (g : Mut F (ℕ × Unit {0}) (Option A)) (f : F) (h : ℕ → Option A)
    (computes : (x : ℕ) (o : Option A) (q : F) → Called g f (x, tt) o q → (q ≡ f) × (o ≡ h x)) (a m : ℕ) where
  keeps : CallKeepsClosure g f
  keeps x o q k = (computes x.0 o q k).0

  -- the items of a run over the numbers from a
  counts : (p : Run nat_range_steps) → p.from ≡ record { start = a; end = a + m } → ItemsCountUp p a (a + m)
  counts p s = subst (λ (z : Range ℕ). ItemsCountUp p z.start z.end) s (range_runs p p.seen)

  at_number : (p : Run nat_range_steps) → p.from ≡ record { start = a; end = a + m } → (k : ℕ) → k < p.len → p.at k ≡ Some (a + k)
  at_number p s k h = same_option (p.at k) ∙ (counts p s).3 k h

  missed : (p : Run nat_range_steps) (k : ℕ) → p.at k ≡ Some (a + k) → IfSome (p.at k) (λ x. Called g f (x, tt) None f) → h (a + k) ≡ None
  missed p k e c = sym (computes (a + k) None f (subst (λ (o : Option ℕ). IfSome o (λ x. Called g f (x, tt) None f)) e c)).1

  given : (p : Run nat_range_steps) (k : ℕ) (o : Option A) → p.at k ≡ Some (a + k) → IsSomeAnd (p.at k) (λ x. Called g f (x, tt) o f) → h (a + k) ≡ o
  given p k o e c = sym (computes (a + k) o f (subst (λ (z : Option ℕ). IsSomeAnd z (λ x. Called g f (x, tt) o f)) e c)).1

  pub find_map_first : (r : Option A)
      → SomeRun nat_range_steps (record { start = a; end = a + m }) (λ p. MatchOption r (IsTrue p.whole × AllItemsGive p g f None) (λ y. (i : ℕ) × (i < p.len) × (p.len ≡ i + 1) × IsFirstToGive p g f (Some y) None i))
      → r ≡ first_of h a m
  find_map_first None (p, s, w) =
      let long : p.len ≡ a + m - a = (counts p s).1 (search w) in
      sym (no_first h a m (λ k l. missed p k (at_number p s k (omega arith)) (w.1 keeps k)))
  find_map_first (Some y) (p, s, w) =
      let i = w.0 in
      let (hit, misses) = w.3 keeps in
      let few : p.len ≤ a + m - a = (counts p s).0 in
      let below : i < p.len = w.1 in
      sym
      (some_first h a m i y (omega arith)
      (λ k l. given p k None (at_number p s k (omega arith)) (misses k l))
      (given p i (Some y) (at_number p s i below) hit))
