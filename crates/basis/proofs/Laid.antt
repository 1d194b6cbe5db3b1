-- Runs that are written one after another.
use Rattle.std.proofs.Common.{◌≡◌, ℕ, ◌+◌, ◌*◌, List, ◌++◌, length, take, drop, sym, refl, ap, ◌∙◌, ap₂, arith}
use Rattle.std.proofs.lemmas.List.{take_at, drop_at, drop-drop, length-append, append_assoc}

-- one run more: x is what was written so far and the rest of what stood there
pub put_next : (pre run o x : List ℕ) (at n m : ℕ) → x ≡ pre ++ drop at o → length pre ≡ at → at + length run ≡ n → n ≡ m
    → take at x ++ (run ++ drop n x) ≡ (pre ++ run) ++ drop m o
put_next pre run o x at n m ex el en em =
    ap₂ (λ (ys zs : List ℕ). ys ++ (run ++ zs))
    (ap (take at) ex ∙ take_at pre (drop at o) at el)
    (ap (λ (k : ℕ). drop k x) (sym en) ∙ sym (drop-drop (length run) at x) ∙ ap (λ (zs : List ℕ). drop (length run) zs) (ap (drop at) ex ∙ drop_at pre (drop at o) at el)
    ∙ drop-drop (length run) at o ∙ ap (λ (k : ℕ). drop k o) (en ∙ em))
    ∙ sym (append_assoc pre run (drop m o))

-- five runs of d numbers
module _ (d : ℕ) (a b c e f o : List ℕ) (la : length a ≡ d) (lb : length b ≡ d) (lc : length c ≡ d) (le : length e ≡ d) (lf : length f ≡ d) where
  pub five : (x1 x2 x3 x4 x5 : List ℕ) → x1 ≡ take 0 o ++ (a ++ drop (0 + length a) o) → x2 ≡ take d x1 ++ (b ++ drop (d + length b) x1)
      → x3 ≡ take (2 * d) x2 ++ (c ++ drop (2 * d + length c) x2) → x4 ≡ take (3 * d) x3 ++ (e ++ drop (3 * d + length e) x3)
      → x5 ≡ take (4 * d) x4 ++ (f ++ drop (4 * d + length f) x4) → x5 ≡ (a ++ (b ++ (c ++ (e ++ f)))) ++ drop (5 * d) o
  five x1 x2 x3 x4 x5 e1 e2 e3 e4 e5 =
      let l2 : length (a ++ b) ≡ 2 * d = length-append a b ∙ (let z : length a + length b ≡ 2 * d = omega arith in z) in
      let l3 : length (a ++ b ++ c) ≡ 3 * d = length-append (a ++ b) c ∙ (let z : length (a ++ b) + length c ≡ 3 * d = omega arith in z) in
      let l4 : length (a ++ b ++ c ++ e) ≡ 4 * d = length-append (a ++ b ++ c) e ∙ (let z : length (a ++ b ++ c) + length e ≡ 4 * d = omega arith in z) in
      let s1 : x1 ≡ a ++ drop d o = e1 ∙ ap (λ (k : ℕ). a ++ drop k o) (let z : 0 + length a ≡ d = omega arith in z) in
      let s2 : x2 ≡ a ++ b ++ drop (2 * d) o = e2 ∙ put_next a b o x1 d (d + length b) (2 * d) s1 la refl (omega arith) in
      let s3 : x3 ≡ a ++ b ++ c ++ drop (3 * d) o = e3 ∙ put_next (a ++ b) c o x2 (2 * d) (2 * d + length c) (3 * d) s2 l2 refl (omega arith) in
      let s4 : x4 ≡ a ++ b ++ c ++ e ++ drop (4 * d) o = e4 ∙ put_next (a ++ b ++ c) e o x3 (3 * d) (3 * d + length e) (4 * d) s3 l3 refl (omega arith) in
      e5 ∙ put_next (a ++ b ++ c ++ e) f o x4 (4 * d) (4 * d + length f) (5 * d) s4 l4 refl (omega arith)
      ∙ ap (λ (ys : List ℕ). ys ++ drop (5 * d) o)
      (append_assoc (a ++ b ++ c) e f ∙ append_assoc (a ++ b) c (e ++ f) ∙ append_assoc a b (c ++ (e ++ f)))
