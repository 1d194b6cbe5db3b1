-- Acts that are done one after another, up to the first that is refused.
use Rattle.std.proofs.Common.{◌≡◌, ℕ, List, ◌∷◌, Some, None, Option, sym, refl, ap, ◌∙◌, arith}
use Rattle.faults.specs.declared.CollectionFault.{CollectionFault}
use Rattle.faults.specs.Faults.{collection_refusal}
use Rattle.codes.specs.First.{or_else}
use Rattle.codes.specs.Opening.{Given, first_fault}
use Rattle.collections.specs.Book.{Book, unopened, Act, opening, blank_check, of_code, check, writes, accepts, said_by, left_by, Said, done, refused, Right}
use Rattle.transfer.specs.Loading.{first_refused, all_written}

-- an act is accepted where it says so, and refused where it says so
no_refusal : (f : CollectionFault) → done ≡ refused (collection_refusal f) f → ⊥
no_refusal f e = let z : ◌≡◌ {A = ℕ} 0 1 = cc in omega arith

done_by : (o : Option CollectionFault) (x : Said) (e w b : Book) → done ≡ said_by o x → e ≡ left_by o w b → (o ≡ None) × (e ≡ w)
done_by None x e w b s l = (refl, l)
done_by (Some f) x e w b s l = absurd (no_refusal f s)

pub accepted : (q : ℕ) (b : Book) (act : Act) (e : Book) → Right q b act done e → (check q b act ≡ None) × (e ≡ writes b act)
accepted q b act e r = done_by (check q b act) (accepts b act) e (writes b act) b r.answers r.leaves

refused_by : (o : Option CollectionFault) (x : Said) (f : CollectionFault) → x ≡ done → refused (collection_refusal f) f ≡ said_by o x → o ≡ Some f
refused_by None x f d s = absurd (no_refusal f (sym (s ∙ d)))
refused_by (Some g) x f d s = cc

pub rejected : (q : ℕ) (b : Book) (act : Act) (f : CollectionFault) (e : Book) → accepts b act ≡ done → Right q b act (refused (collection_refusal f) f) e → check q b act ≡ Some f
rejected q b act f e d r = refused_by (check q b act) (accepts b act) f d r.answers

-- acts of which some are done: those that are left decide as all of them do
pub record Done (q : ℕ) (before : Book) (all : List Act) (here : Book) (rest : List Act) : Type 0 where
  pub fault : first_refused q before all ≡ first_refused q here rest
  pub book : all_written before all ≡ all_written here rest

pub goes : (q : ℕ) (b : Book) (all : List Act) (m : Book) (rest : List Act) (a : Act) (more : List Act) (e : Book) → Done q b all m rest → rest ≡ a ∷ more → check q m a ≡ None → e ≡ writes m a → Done q b all e more
goes q b all m rest a more e d r h w = record {
  fault =
      d.fault
      ∙ ap (first_refused q m) r
      ∙ ap (λ (o : Option CollectionFault). or_else o (first_refused q (writes m a) more)) h
      ∙ sym (ap (λ (x : Book). first_refused q x more) w);
  book = d.book ∙ ap (all_written m) r ∙ sym (ap (λ (x : Book). all_written x more) w);
}

pub stops : (q : ℕ) (b : Book) (all : List Act) (m : Book) (rest : List Act) (a : Act) (more : List Act) (f : CollectionFault) → Done q b all m rest → rest ≡ a ∷ more → check q m a ≡ Some f → first_refused q b all ≡ Some f
stops q b all m rest a more f d r h =
    d.fault
    ∙ ap (first_refused q m) r
    ∙ ap (λ (o : Option CollectionFault). or_else o (first_refused q (writes m a) more)) h

-- a blank collection is opened as a new one is
pub opens_alike : (q : ℕ) (b n : Book) (g : Given) → None ≡ blank_check b → n ≡ unopened → check q b (opening g) ≡ check q n (opening g)
opens_alike q b n g h e =
    sym (ap (λ (o : Option CollectionFault). or_else o (of_code (first_fault q g))) h) ∙ sym (ap (λ (z : Book). check q z (opening g)) e)

pub opens_refused : (q : ℕ) (b n : Book) (g : Given) (es : List Act) (f : CollectionFault) (e : Book) → None ≡ blank_check b → n ≡ unopened → Right q n (opening g) (refused (collection_refusal f) f) e → first_refused q b (opening g ∷ es) ≡ Some f
opens_refused q b n g es f e h u r =
    stops q b (opening g ∷ es) b (opening g ∷ es) (opening g) es f record { fault = refl; book = refl } refl
    (opens_alike q b n g h u ∙ rejected q n (opening g) f e refl r)

pub opens_first : (q : ℕ) (b n : Book) (g : Given) (es : List Act) (e : Book) → None ≡ blank_check b → n ≡ unopened → Right q n (opening g) done e → Done q b (opening g ∷ es) e es
opens_first q b n g es e h u r =
    let a = accepted q n (opening g) e r in
    goes q b (opening g ∷ es) b (opening g ∷ es) (opening g) es e record { fault = refl; book = refl } refl
    (opens_alike q b n g h u ∙ a.0) a.1
