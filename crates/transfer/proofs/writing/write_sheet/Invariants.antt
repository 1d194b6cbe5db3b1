use Rattle.std.proofs.Common.{◌≡◌, ◌+◌, ◌*◌, ◌≤◌, ◌++◌, length, drop}
use Rattle.collections.specs.Standing.{standing, shares, given_of}
use Rattle.transfer.specs.Writing.{header_bytes, entries_bytes}
use Rattle.transfer.proofs.writing.write_sheet.Given as goal

abbrev pub invariant-loop-p : goal.invariant-loop-p
invariant-loop-p g l =
    let given = given_of l.opened in
    let k = l.p-iterator.count in
    record {
      points : l.p-iterator.iter.a.rest.now ≡ drop k given.points;
      multipliers : l.p-iterator.iter.b.rest.now ≡ drop k given.multipliers;
      within : k ≤ length given.points;
      written : l.out ≡ (header_bytes g.F.Field.SHEET_NUMBER given ++ entries_bytes given (shares (standing l.c.kept)) k) ++ drop (9 + 6 * k) l.initial.out;
    }
