-- The delivered fields, and the numbers by which a sheet names them.
use Rattle.std.specs.Prelude.{ℕ, cond, Some, None, Option, Result, ◌==◌}
use Rattle.std.specs.Option.{ok_or}
use Rattle.fields.specs.Numbers.{Numbers}
use Rattle.fields.specs.Fields.{numbers7, numbers16, numbers256, numbers929}
use Rattle.faults.specs.declared.SheetFault.{SheetFault}
use Rattle.faults.specs.declared.SheetFault.TheVariants.{OtherField}
use Rattle.sheets.specs.declared.FieldName.{FieldName}
use Rattle.sheets.specs.declared.FieldName.TheVariants.{Mod7, Gf16, Gf256, Mod929}

-- the field of a sheet number
abbrev pub field_numbered : ℕ → Option FieldName
field_numbered number =
    cond (number == 1) (Some Mod7) (cond (number == 2) (Some Gf16) (cond (number == 3) (Some Gf256) (cond (number == 4) (Some Mod929) None)))

-- the same, or 15 where no field has the number
abbrev pub naming : ℕ → Result FieldName SheetFault
naming number = ok_or (field_numbered number) (OtherField number)

abbrev pub numbers_named : FieldName → Numbers
numbers_named Mod7 = numbers7
numbers_named Gf16 = numbers16
numbers_named Gf256 = numbers256
numbers_named Mod929 = numbers929
