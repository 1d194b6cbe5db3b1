-- The lines that are printed, in bytes.
use Rattle.std.specs.Prelude.{ℕ, List, ◌++◌, codes, decimal}
use Rattle.faults.specs.Faults.{listing_refusal}
use Rattle.faults.specs.Lines.{refusal_line, sheet_line}
use Rattle.issuance.specs.declared.IssueFault.{IssueFault}
use Rattle.issuance.specs.declared.IssueFault.TheVariants.{Sheet, Listing}
use Rattle.issuance.specs.declared.Issued.{Issued}
use Rattle.issuance.specs.declared.Share.{Share}

abbrev pub fault_line : IssueFault → List ℕ
fault_line (Sheet e) = sheet_line e
fault_line (Listing e) = refusal_line (listing_refusal e)

abbrev pub code_line : Issued → List ℕ
code_line i =
    codes "code field " ++ (decimal i.field ++ (codes " places " ++ (decimal i.code.count ++ (codes " threshold " ++ decimal i.code.threshold))))

abbrev pub place_line : Share → List ℕ
place_line s =
    codes "place " ++ (decimal s.place ++ (codes " point " ++ (decimal s.point ++ (codes " multiplier " ++ (decimal s.multiplier ++ (codes " share " ++ decimal s.share))))))
