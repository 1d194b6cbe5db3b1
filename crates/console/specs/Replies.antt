-- What is printed of the replies to a loading and to a listing after it.
use Rattle.std.specs.Prelude.{ℕ, List, [], ◌++◌, Some, None, codes, decimal}
use Rattle.faults.specs.declared.Refusal.{Refusal}
use Rattle.faults.specs.Lines.{refusal_line}
use Rattle.runs.specs.Law.{Reply, accepted, tells, lists, refuses}
use Rattle.console.specs.Lines.{ended, list_text}

abbrev pub byte_line : Refusal → ℕ → List ℕ
byte_line r byte = refusal_line r ++ (codes " byte " ++ decimal byte)

abbrev pub reply_text : (k n : ℕ) → Reply → List ℕ
reply_text k n accepted = []
reply_text k n (tells x) = []
reply_text k n (lists items) = list_text k n items
reply_text k n (refuses r None) = ended (refusal_line r)
reply_text k n (refuses r (Some byte)) = ended (byte_line r byte)

-- of the listing, or of the loading where that was refused
abbrev pub answers_text : (k n : ℕ) → (loading listing : Reply) → List ℕ
answers_text k n accepted s = reply_text k n s
answers_text k n (tells x) s = reply_text k n s
answers_text k n (lists items) s = reply_text k n s
answers_text k n (refuses r byte) s = reply_text k n (refuses r byte)

-- a listing is answered by a list, or by a refusal without a byte
abbrev pub ToListing : Reply → Type 0
ToListing accepted = ⊥
ToListing (tells x) = ⊥
ToListing (lists items) = Unit {0}
ToListing (refuses r None) = Unit {0}
ToListing (refuses r (Some byte)) = ⊥
