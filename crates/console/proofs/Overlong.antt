-- The reader's own checks refuse every input of more than 2,048 bytes, by the version or by the length; so the header is what the reader reads.
use Rattle.std.proofs.Common.{◌≡◌, ℕ, ◌-◌, ◌*◌, ◌<◌, ◌≤◌, Bool, true, false, cond, not, ◌||◌, eqb, ltb, List, length, get_or, take, drop, Some, None, Err, unwrap_or, sym, refl, ap, ◌∙◌, subst, arith, lit<, length-drop, length-take, get_or-take}
use native.Mathlib.Nat.{min-eq_left}
use Rattle.std.proofs.lemmas.Bool.{le-ltb, lt-ltb, ltb-true, true≢false}
use Rattle.faults.specs.declared.SheetFault.{SheetFault}
use Rattle.faults.specs.declared.SheetFault.TheVariants.{Version, Length}
use Rattle.codes.specs.First.{or_else, when, unless}
use Rattle.sheets.specs.Sheet.{Sheet, sheet_of, header_fault}
use Rattle.console.specs.Headers.{overlong_fault, header_of, header_in, FirstBytesTell}

-- of a long input
by_version : (short version wrong : Bool) (e : SheetFault) → short ≡ false
    → Some e ≡ or_else (when (short || not version) Version) (when wrong Length) → cond version Length Version ≡ e
by_version true version wrong e h p = absurd (true≢false h)
by_version false true true e h p = sym (ap (λ o. unwrap_or o Length) p)
by_version false true false e h p = sym (ap (λ o. unwrap_or o Length) p)
by_version false false wrong e h p = sym (ap (λ o. unwrap_or o Version) p)

refused_by : (bs : List ℕ) (e : SheetFault) (long : Bool) → ltb 2048 (length bs) ≡ long → Some e ≡ header_fault bs
    → or_else (when long (cond (eqb (get_or bs 0 0) 1) Length Version)) (header_fault bs) ≡ Some e
refused_by bs e false q p = sym p
refused_by bs e true q p =
    let l : 2048 < length bs = ltb-true 2048 (length bs) q in
    ap Some (by_version (ltb (length bs) 9) (eqb (get_or bs 0 0) 1) _ e (le-ltb (length bs) 9 (omega arith)) p)

module _ (bs : List ℕ) where
  pub refused : (e : SheetFault) → Some e ≡ header_fault bs → Err e ≡ header_in bs
  refused e p =
      sym (ap (λ o. unless o (header_of (sheet_of bs))) (refused_by bs e (ltb 2048 (length bs)) refl p))

  short_enough : length (drop 9 bs) ≤ 6 * 255 → overlong_fault bs ≡ None
  short_enough h =
      let e : length (drop 9 bs) ≡ length bs - 9 = length-drop 9 bs in
      ap (λ b. when b (cond (eqb (get_or bs 0 0) 1) Length Version)) (le-ltb 2048 (length bs) (omega arith))

  pub accepted : (s : Sheet) → None ≡ header_fault bs → s ≡ sheet_of bs → length s.entries ≤ 6 * 255 → header_of s ≡ header_in bs
  accepted s p e h =
      let tail : List ℕ → Type 0 = λ xs. length xs ≤ 6 * 255 in
      ap header_of e
      ∙ ap (λ o. unless o (header_of (sheet_of bs)))
      (p ∙ ap (λ o. or_else o (header_fault bs)) (sym (short_enough (subst tail (ap (λ (t : Sheet). t.entries) e) h))))

long_refused : (bs : List ℕ) → 2048 < length bs → header_in bs ≡ Err (cond (eqb (get_or bs 0 0) 1) Length Version)
long_refused bs h =
    ap (λ b. unless (or_else (when b (cond (eqb (get_or bs 0 0) 1) Length Version)) (header_fault bs)) (header_of (sheet_of bs)))
    (lt-ltb 2048 (length bs) h)

pub first_bytes : FirstBytesTell
first_bytes bs h =
    let e : length (take 2049 bs) ≡ 2049 = length-take 2049 bs ∙ min-eq_left h in
    long_refused (take 2049 bs) (omega arith) ∙ ap (λ v. Err (cond (eqb v 1) Length Version)) (get_or-take 2049 bs 0 0 (lit< tt)) ∙ sym (long_refused bs h)
