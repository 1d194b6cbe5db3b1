-- One call more at the end of a run, with the work area as long as it was, and the run up to a call.
use Rattle.std.proofs.Common.{◌≡◌, ℕ, zero, suc, ◌+◌, ◌<◌, List, [], ◌∷◌, ◌++◌, map, length, get_or, take, set, Some, Result, subst, arith, length-take}
use Rattle.std.proofs.lemmas.List.{take_more, take_more_set, map_push}
use Rattle.std.proofs.lemmas.Option.{same_Some, none-some}
use Rattle.std.specs.List.{slice_get}
use Rattle.fields.specs.Numbers.{Numbers}
use Rattle.collections.specs.Book.{Book}
use Rattle.runs.specs.declared.Call.{Call}
use Rattle.runs.specs.declared.Outcome.{Outcome}
use Rattle.runs.specs.declared.CallFault.{CallFault}
use Rattle.runs.specs.Law.{Reply, reply, Answered, Runs, stop, go}
use Rattle.runs.specs.Kinds.{Befits, EachBefits}

snoc : {q : ℕ} {F : Numbers} {tag lent : ℕ} {b m e : Book} {cs : List Call} {rs : List Reply} (c : Call) (r : Reply) → Runs q F tag lent b cs rs m → Answered q F tag lent m c r e → Runs q F tag lent b (cs ++ c ∷ []) (rs ++ r ∷ []) e
snoc c r stop st = go st stop
snoc c r (go x rest) st = go x (snoc c r rest st)

pub again : (q : ℕ) (F : Numbers) (tag lent now : ℕ) (b m e : Book) (cs : List Call) (os : List (Result Outcome CallFault)) (i : ℕ) (a : Result Outcome CallFault) (d : Call) → now ≡ lent → i < length cs → i < length os → Runs q F tag lent b (take i cs) (map reply (take i os)) m → Answered q F tag now m (get_or cs i d) (reply a) e → Runs q F tag lent b (take (i + 1) cs) (map reply (take (i + 1) (set os i a))) e
again q F tag lent now b m e cs os i a d same h k r st =
    rw (take_more cs i d h, take_more_set os i a k, map_push reply (take i os) a)
    (snoc (get_or cs i d) (reply a) r (subst (λ (n : ℕ). Answered q F tag n m (get_or cs i d) (reply a) e) same st))

-- one call more with an answer that befits it
pub none_befit : EachBefits [] []
none_befit i c a p q = absurd (none-some c p)

befits_push : (cs : List Call) (os : List (Result Outcome CallFault)) (c : Call) (a : Result Outcome CallFault) → length cs ≡ length os → EachBefits cs os → Befits c a → EachBefits (cs ++ c ∷ []) (os ++ a ∷ [])
befits_push [] [] c a e h b zero d x p q = subst (λ (z : Call). Befits z x) (same_Some c d p) (subst (Befits c) (same_Some a x q) b)
befits_push [] [] c a e h b (suc i) d x p q = absurd (none-some d p)
befits_push [] (o ∷ os) c a e h b i d x p q = absurd (omega arith)
befits_push (y ∷ cs) [] c a e h b i d x p q = absurd (omega arith)
befits_push (y ∷ cs) (o ∷ os) c a e h b zero d x p q = h zero d x p q
befits_push (y ∷ cs) (o ∷ os) c a e h b (suc i) d x p q = befits_push cs os c a (omega arith) (λ j. h (suc j)) b i d x p q

pub one_more_befits : (cs : List Call) (os : List (Result Outcome CallFault)) (i : ℕ) (a : Result Outcome CallFault) (d : Call) → i < length cs → i < length os → EachBefits (take i cs) (take i os) → Befits (get_or cs i d) a → EachBefits (take (i + 1) cs) (take (i + 1) (set os i a))
one_more_befits cs os i a d h k each b =
    rw (take_more cs i d h, take_more_set os i a k)
    (befits_push (take i cs) (take i os) (get_or cs i d) a (omega (arith, length-take i cs, length-take i os)) each b)

-- the run up to a call, and the call's answer
pub record UpTo (q : ℕ) (F : Numbers) (tag lent : ℕ) (b : Book) (cs : List Call) (rs : List Reply) (c : Call) (r : Reply) : Type 0 where
  pub here : Book
  pub next : Book
  pub runs : Runs q F tag lent b cs rs here
  pub answered : Answered q F tag lent here c r next

pub up_to : (q : ℕ) (F : Numbers) (tag lent : ℕ) (b e : Book) (cs : List Call) (rs : List Reply) (i : ℕ) (c : Call) (r : Reply) → Runs q F tag lent b cs rs e → slice_get cs i ≡ Some c → slice_get rs i ≡ Some r → UpTo q F tag lent b (take i cs) (take i rs) c r
up_to q F tag lent b e cs rs i c r stop h k = absurd (let z : ◌≡◌ {A = ℕ} 0 1 = cc in omega arith)
up_to q F tag lent b e cs rs zero c r (go {m = m} {c = d} {r = s} st run) h k =
    record {
      here = b;
      next = m;
      runs = stop;
      answered =
          subst (λ (z : Reply). Answered q F tag lent b c z m) (same_Some s r k)
          (subst (λ (z : Call). Answered q F tag lent b z s m) (same_Some d c h) st);
    }
up_to q F tag lent b e cs rs (suc i) c r (go {m = m} {cs = ds} {rs = qs} st run) h k =
    let u = up_to q F tag lent m e ds qs i c r run h k in
    record { here = u.here; next = u.next; runs = go st u.runs; answered = u.answered }
