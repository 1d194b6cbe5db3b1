-- What a refused call says: its refusal, and the sheet's byte of a refused loading.
use Rattle.std.specs.Prelude.{ℕ, Some, None, Option}
use Rattle.faults.specs.declared.Refusal.{Refusal}
use Rattle.faults.specs.Faults.{collection_refusal, listing_refusal, sheet_refusal, sheet_byte}
use Rattle.runs.specs.declared.CallFault.{CallFault}
use Rattle.runs.specs.declared.CallFault.TheVariants.{Collection, Sheet, Listing}

abbrev pub call_refusal : CallFault → Refusal
call_refusal (Collection f) = collection_refusal f
call_refusal (Sheet f) = sheet_refusal f
call_refusal (Listing f) = listing_refusal f

abbrev pub call_byte : CallFault → Option ℕ
call_byte (Collection f) = None
call_byte (Sheet f) = Some (sheet_byte f)
call_byte (Listing f) = None
