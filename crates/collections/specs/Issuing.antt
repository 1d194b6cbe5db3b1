-- Issuing by the book: what refuses it, 20 and then 17, 8 and 10, and the codeword that it writes.
use Rattle.std.specs.Prelude.{ℕ, List, [], length, Some, Option}
use Rattle.fields.specs.Numbers.{Numbers}
use Rattle.faults.specs.declared.CollectionFault.TheVariants.{Blank}
use Rattle.faults.specs.declared.ListingFault.{ListingFault}
use Rattle.faults.specs.declared.ListingFault.TheVariants.{Collection}
use Rattle.codes.specs.Codewords.{codeword, issue_fault}
use Rattle.collections.specs.Book.{Book, unopened, opened}

-- a message into an area of m numbers
abbrev pub issuing_fault : ℕ → Book → List ℕ → ℕ → Option ListingFault
issuing_fault q unopened message m = Some (Collection Blank)
issuing_fault q (opened g ps) message m = issue_fault q (length g.points) g.threshold m message

abbrev pub word_in : Numbers → Book → List ℕ → List ℕ
word_in F unopened message = []
word_in F (opened g ps) message = codeword F g.points g.multipliers message
