-- The line that a refusal prints as, in bytes: 'refused 24 place 3 layer listing', and from a sheet its byte as well, 'refused 13 place 0 layer sheet byte 0'.
use Rattle.std.specs.Prelude.{ℕ, List, ◌++◌, codes, decimal}
use Rattle.faults.specs.declared.Refusal.{Refusal}
use Rattle.faults.specs.declared.Layer.{Layer}
use Rattle.faults.specs.declared.Layer.TheVariants.{Code, Collection, Listing, Sheet}
use Rattle.faults.specs.declared.SheetFault.{SheetFault}
use Rattle.faults.specs.Faults.{sheet_refusal, sheet_byte}

abbrev pub layer_name : Layer → List ℕ
layer_name Code = codes "code"
layer_name Collection = codes "collection"
layer_name Listing = codes "listing"
layer_name Sheet = codes "sheet"

abbrev pub refusal_line : Refusal → List ℕ
refusal_line r =
    codes "refused " ++ (decimal r.number ++ (codes " place " ++ (decimal r.place ++ (codes " layer " ++ layer_name r.layer))))

abbrev pub sheet_line : SheetFault → List ℕ
sheet_line e = refusal_line (sheet_refusal e) ++ (codes " byte " ++ decimal (sheet_byte e))
