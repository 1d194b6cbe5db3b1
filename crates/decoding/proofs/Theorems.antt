-- The theorems of specs/Theorems, from the lemmas of the other files.
use Prim.Native.Nat.{◌≤◌}
use native.Mathlib.Omega.{arith}
use Rattle.algebra.specs.Field.{Field}
use Rattle.algebra.proofs.Euclid.{euclid}
use Rattle.decoding.specs.Code.{syndrome}
use Rattle.decoding.specs.Pairs.{w₁, w₂, Among}
use Rattle.decoding.specs.Rational.{Root}
use Rattle.decoding.specs.Theorems.{MinimumDistance, KeyEquation, InterpolantExists, Complete, CompleteList, SiftedListing, WalksFindRoots, AtMost}
use Rattle.decoding.proofs.Words.{least}
use Rattle.decoding.proofs.KeyEquation.{word_key, syndrome_below}
use Rattle.decoding.proofs.Yield.{yield_some, yield_single}
use Rattle.decoding.proofs.Complete.{interpolant, complete, complete_array}
use Rattle.decoding.proofs.AtMost.{at_most, listing_short}
use Rattle.decoding.proofs.Walk.{roots_exact}
use Rattle.decoding.proofs.Whole.{listing}

module _ (𝓕 : Field) where
  pub minimum_distance_stands : MinimumDistance 𝓕
  minimum_distance_stands C k = least 𝓕 C k

  pub key_equation_stands : KeyEquation 𝓕
  key_equation_stands C k = word_key 𝓕 C k

  pub interpolant_exists_stands : InterpolantExists 𝓕
  interpolant_exists_stands C k τ s ℓ sum A r =
      (euclid 𝓕 (λ l. l) C.D (syndrome 𝓕 C r) (syndrome_below 𝓕 C r) (omega arith), λ T. interpolant 𝓕 C A sum r T)

  pub complete_stands : Complete 𝓕
  complete_stands C k τ s ℓ sum A r T =
      record {
        none = λ h c near. let u : T.l ≤ τ = yield_some 𝓕 C k τ sum r T c near in omega arith;
        single = λ h t c. (λ x. x.near, λ near. yield_single 𝓕 C k τ sum r T c near t);
        roots = λ h t Q q.
            complete 𝓕 C A sum r T (Root 𝓕.ring ℓ (w₁ τ T) (w₂ τ T) Q)
            (record {
              none = λ u. absurd (omega arith);
              single = λ _ u. absurd (omega arith);
              roots = λ _ _. (Q, q, λ f₁ f₂. (λ g. g, λ g. g));
            });
      }

  pub complete_list_stands : CompleteList 𝓕
  complete_list_stands C k τ s ℓ sum A r T = complete_array 𝓕 C A sum r T

  pub sifted_listing_stands : SiftedListing 𝓕
  sifted_listing_stands C k τ s ℓ sum A r T p F₁ F₂ pairs m W each kept once =
      let list = listing 𝓕 C A sum r T (Among p F₁ F₂) pairs m W each kept once in
      (list, listing_short 𝓕 C A sum r m W list)

  pub walks_find_roots_stand : WalksFindRoots 𝓕
  walks_find_roots_stand ℓ w₁ w₂ Q stop stop' = roots_exact 𝓕 ℓ w₁ w₂ Q stop' stop

  pub at_most_stands : AtMost 𝓕
  at_most_stands C k τ s ℓ sum A r = at_most 𝓕 C A sum r
