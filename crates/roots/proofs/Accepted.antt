-- What a question has that nothing refuses, and how it fits the work area.
use Rattle.std.proofs.Common.{◌≡◌, ℕ, ◌+◌, ◌*◌, ◌≤◌, Bool, true, false, not, eqb, ltb, leb, length, get_or, None, refl, mul-le-mul_right, arith, ltb-false, eqb-true, leb-false}
use borrow.Author.Tests.{eqb-false}
use Rattle.codes.specs.First.{or_else, when, mapped}
use Rattle.codes.proofs.Firsts.{when_none, or_else_none, mapped_none, below_none}
use Rattle.codes.specs.Codewords.{first_beyond}
use Rattle.faults.specs.declared.ListingFault.TheVariants.{Shape, NotAnElement, ResultArea}
use Rattle.roots.specs.Asked.{Asked, shape_fault, numbers_fault, areas_fault, roots_fault, need, Sized, Answerable}

-- bounds of the runs, of the form and of a leaf's polynomials, and of the sum of all
module _ (ℓ c w₁ w₂ : ℕ) (few : ℓ ≤ 8) (short : c ≤ 400) (h₁ : w₁ ≤ 31) (h₂ : w₂ ≤ 31) where
  digits_few : ℓ * (w₁ + w₂ + 1) ≤ 504
  digits_few =
      let a : ℓ * (w₁ + w₂ + 1) ≤ 8 * (w₁ + w₂ + 1) = mul-le-mul_right (w₁ + w₂ + 1) few in
      omega arith

  pub runs_few : (ℓ + 1) * (c + ℓ * (w₁ + w₂ + 1)) ≤ 8136
  runs_few =
      let d = digits_few in
      let a : (ℓ + 1) * (c + ℓ * (w₁ + w₂ + 1)) ≤ 9 * (c + ℓ * (w₁ + w₂ + 1)) = mul-le-mul_right (c + ℓ * (w₁ + w₂ + 1)) (omega arith) in
      omega arith

  pub form_few : (ℓ + 1) * c ≤ 3600
  form_few =
      let a : (ℓ + 1) * c ≤ 9 * c = mul-le-mul_right c (omega arith) in
      omega arith

  pub work_few : 3 * (c + ℓ * 31) ≤ 1944
  work_few = let a : ℓ * 31 ≤ 8 * 31 = mul-le-mul_right 31 few in omega arith

-- the work area of the public call is enough for every question
pub need_few : (a : Asked) → a.ℓ ≤ 8 → a.c ≤ 400 → a.w₁ ≤ 31 → a.w₂ ≤ 31 → need a ≤ 400000
need_few a few short h₁ h₂ =
    omega (arith, runs_few a.ℓ a.c a.w₁ a.w₂ few short h₁ h₂, form_few a.ℓ a.c a.w₁ a.w₂ few short h₁ h₂, work_few a.ℓ a.c a.w₁ a.w₂ few short h₁ h₂)

not_false : (b : Bool) → not b ≡ false → b ≡ true
not_false true e = refl
not_false false e = absurd (let n : ◌≡◌ {A = ℕ} 0 1 = cc in omega arith)

pub sized : (q : ℕ) (a : Asked) (records numbers : ℕ) → roots_fault q a records numbers ≡ None → Sized q a records numbers
sized q a records numbers e =
    let (shape, rest) = or_else_none (shape_fault a) (or_else (numbers_fault q a) (areas_fault a records numbers)) e in
    let (nums, areas) = or_else_none (numbers_fault q a) (areas_fault a records numbers) rest in
    let (s1, t1) = or_else_none (when (eqb a.ℓ 0) Shape) _ shape in
    let (s2, t2) = or_else_none (when (ltb 8 a.ℓ) Shape) _ t1 in
    let (s3, t3) = or_else_none (when (eqb a.c 0) Shape) _ t2 in
    let (s4, t4) = or_else_none (when (ltb 400 a.c) Shape) _ t3 in
    let (s5, t5) = or_else_none (when (ltb 31 a.w₁) Shape) _ t4 in
    let (s6, s7) = or_else_none (when (ltb 31 a.w₂) Shape) _ t5 in
    let (n1, n2) = or_else_none (mapped (λ i. NotAnElement i (get_or a.form i 0)) (first_beyond q a.form)) _ nums in
    let (a1, a2) = or_else_none (when (ltb records a.ℓ) (ResultArea records)) _ areas in
    record {
      degree = let z = eqb-false a.ℓ 0 (when_none _ _ s1) in omega arith;
      few = ltb-false 8 a.ℓ (when_none _ _ s2);
      wide = let z = eqb-false a.c 0 (when_none _ _ s3) in omega arith;
      short = ltb-false 400 a.c (when_none _ _ s4);
      first = ltb-false 31 a.w₁ (when_none _ _ s5);
      second = ltb-false 31 a.w₂ (when_none _ _ s6);
      long = eqb-true (length a.form) ((a.ℓ + 1) * a.c) (not_false _ (when_none _ _ s7));
      all = λ k h. leb-false q (get_or a.form k 0) (below_none (length a.form) (λ i. leb q (get_or a.form i 0)) (mapped_none _ _ n1) k h);
      some = when_none _ _ n2;
      enough = ltb-false records a.ℓ (when_none _ _ a1);
      work = ltb-false numbers 400000 (when_none _ _ a2);
    }

pub answerable : (q : ℕ) (a : Asked) (records numbers : ℕ) → Sized q a records numbers → Answerable q a records numbers
answerable q a records numbers x =
    record {
      degree = x.degree;
      few = x.few;
      wide = x.wide;
      short = x.short;
      first = x.first;
      second = x.second;
      long = x.long;
      all = x.all;
      some = x.some;
      enough = x.enough;
      work = let h = x.work in let k = need_few a x.few x.short x.first x.second in omega arith;
    }
