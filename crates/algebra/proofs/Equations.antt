-- How equations of commutative rings are proved here: the ring solver of specs/Solve, by examples.
--
--     ring R (a ∷ b ∷ c ∷ []) (search forms depth 20) tt : x ≡ y
--
-- proves that x equals y in the ring R, where x and y are made of the listed elements by 𝟘, 𝟙, ⊕, ⊖ and ⊗. The three arguments are:
--
-- - the ring. It is a variable, 𝓕.ring, Poly R or Poly (Poly R) for such a ring. With a concrete ring the reading below does not go
--   through: prove the equation over a variable, and apply it.
-- - the atoms: at most ten, and any terms, as `p zero`, `conv R p q n` or `𝓕.inv (v j)`. What is no sum, product or opposite has to be an
--   atom, and is then taken as a variable; so are powers (pow R a n) and the operations of another ring. An atom more does no harm.
-- - how x and y are written by the atoms. `search forms depth 20` finds it from the type, by the rules of specs/PolyForms. Where the type
--   is not known at that place, in the midst of a chain `p ∙ q`, say which one is meant: `ring R (..) {y = ..} (search forms depth 20) tt`,
--   or {x = ..}; the other end comes from the neighbour.
--
-- The last argument, tt, is the proof of a computed test: the normal forms of x and y, sums of signed monomials in order, cancel. Where
-- the equation does not hold in all commutative rings, this is refused. A call takes about ten milliseconds.
--
-- An equation that holds because of another one, e : u ≡ v, is brought in by `from_eq R c e`: it asks for x ⊕ c ⊗ v ≡ y ⊕ c ⊗ u in
-- place of x ≡ y, that is for x - y = c (u - v), which is again one for the solver, once the factor c is found; calls nest for several.
-- The other way is a chain: `ring .. ∙ ap (λ z. ..) e ∙ ring ..`, which brings x to a form in which u stands, replaces it, and goes on.
--
-- `simp` with the laws of commutativity does not do this: it fails as soon as something cancels.
use mathlib.Core.Path.{◌≡◌, ◌∙◌, ap}
use mathlib.Core.List.{[], ◌∷◌}
use Prim.Native.Nat.{ℕ}
use Rattle.algebra.specs.Ring.{Ring}
use Rattle.algebra.specs.RingLaws.{from_eq}
use Rattle.algebra.specs.Solve.{ring}
use Rattle.algebra.specs.Poly.{conv, padd, pneg}
use Rattle.algebra.specs.PolyRing.{Poly}
use Rattle.algebra.specs.PolyForms.{forms}

module _ (R : Ring) where
  infixl 60 ◌⊕◌
  infixl 70 ◌⊗◌
  infix 80 ⊖◌
  open R use {El, 𝟙, ◌⊕◌, ⊖◌, ◌⊗◌}

  -- in the ring itself
  expand : (a b c d : El) → (a ⊕ b) ⊗ (c ⊕ ⊖ d) ≡ a ⊗ c ⊕ ⊖ (d ⊗ a) ⊕ b ⊗ c ⊕ ⊖ (b ⊗ d)
  expand a b c d = ring R (a ∷ b ∷ c ∷ d ∷ []) (search forms depth 20) tt

  -- among polynomials: the determinant of two rows after a step of Euclid's algorithm
  determinant : (a b a' b' q : ℕ → El)
      → padd R (conv R a (padd R b' (pneg R (conv R q b)))) (pneg R (conv R (padd R a' (pneg R (conv R q a))) b))
      ≡ padd R (conv R a b') (pneg R (conv R a' b))
  determinant a b a' b' q = ring (Poly R) (a ∷ b ∷ a' ∷ b' ∷ q ∷ []) (search forms depth 20) tt

  -- from an equation, times the factor e
  by_equation : (a b c d e : El) → a ⊗ d ≡ b ⊗ c → a ⊗ e ⊗ d ⊕ b ≡ b ⊗ (e ⊗ c ⊕ 𝟙)
  by_equation a b c d e h = from_eq R e h (ring R (a ∷ b ∷ c ∷ d ∷ e ∷ []) (search forms depth 20) tt)

  -- the same by a chain
  by_chain : (a b c d e : El) → a ⊗ d ≡ b ⊗ c → a ⊗ e ⊗ d ⊕ b ≡ b ⊗ (e ⊗ c ⊕ 𝟙)
  by_chain a b c d e h =
      ring R (a ∷ b ∷ d ∷ e ∷ []) {y = a ⊗ d ⊗ e ⊕ b} (search forms depth 20) tt
      ∙ ap (λ z. z ⊗ e ⊕ b) h
      ∙ ring R (b ∷ c ∷ e ∷ []) (search forms depth 20) tt
