-- Whose fault refuses a sheet: the sheet's own, or the listing's. A fault of the collection stands within one of the two.
use Rattle.std.specs.Prelude.{⊤}
use Rattle.runs.specs.declared.CallFault.{CallFault}
use Rattle.runs.specs.declared.CallFault.TheVariants.{Collection, Sheet, Listing}

abbrev pub OfSheetOrListing : CallFault → Type 0
OfSheetOrListing (Collection f) = ⊥
OfSheetOrListing (Sheet f) = ⊤
OfSheetOrListing (Listing f) = ⊤
