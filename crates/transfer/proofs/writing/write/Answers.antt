use Rattle.std.proofs.Common.{◌≡◌, ℕ, ◌+◌, ◌*◌, ◌≤◌, List, ◌++◌, length, take, drop, sym, ap, ◌∙◌, ap₂, arith}
use lib.Seq.{take-append_seam}
use Rattle.collections.specs.Standing.{standing}
use Rattle.transfer.specs.Writing.{bytes_of}
use Rattle.transfer.proofs.Again.{kept_again}
use Rattle.transfer.proofs.Written.{room, bytes_open, size_open}
use Rattle.transfer.proofs.writing.write.Goals as goal

pub returns : goal.returns
returns g c =
    let k = c.args.c.now.kept in
    let o = c.in_ok-opened.opened.now in
    let e = c.in_ok-opened.ensures in
    let out = c.args.out.now in
    let tag = g.F.Field.SHEET_NUMBER in
    let n = c.count.ensures in
    let size = size_open tag k o e in
    let enough : 9 + 6 * o.code.count ≤ length out = omega arith in
    let count : 9 + 6 * c.count.result ≡ length (bytes_of tag (standing k)) = omega arith in
    let area : c.write_sheet.new.out ≡ bytes_of tag (standing k) ++ drop (length (bytes_of tag (standing k))) out =
    c.write_sheet.ensures
    ∙ sym (ap (λ (l : List ℕ). l ++ drop (9 + 6 * o.code.count) out) (bytes_open tag k o e))
    ∙ sym (ap (λ (m : ℕ). bytes_of tag (standing k) ++ drop m out) size) in
    record {
      fault = sym (room k o (length out) e enough);
      area = area;
      count = count;
      again = kept_again g.F.Field.numbers.q tag k o _ e c.args.c.now.sound (ap₂ take count area ∙ take-append_seam (bytes_of tag (standing k)) _);
    }
