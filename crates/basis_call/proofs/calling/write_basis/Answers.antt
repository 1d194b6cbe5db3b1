use Rattle.std.proofs.Common.{◌≡◌, ℕ, ◌+◌, ◌-◌, ◌*◌, ◌≤◌, length, take, None, sym, ◌∙◌, subst, ap₂, arith, w16, to_z, of_z}
use Rattle.std.proofs.lemmas.List.{length-take-le}
use Rattle.std.proofs.lemmas.Int.{ints}
use Rattle.fields.specs.Numbers.{AllBelow}
use Rattle.gathering.specs.Shares.{gathering_fault}
use Rattle.basis_call.proofs.Codes.{over_by, fault_by, fits_area, width_is, area_by, weights_by}
use Rattle.basis_call.proofs.calling.write_basis.Goals as goal

pub basis_for-basis-requires : goal.basis_for-basis-requires
basis_for-basis-requires g c =
    let q = g.F.Field.numbers.q in
    let o = c.in_ok-opened.field-0.now in
    let t = c.in_ok-shares.ensures.gathered in
    let e : c.count-n.result ≡ o.code.count = c.count-n.ensures in
    record {
      over = over_by q c.args.collection.now.kept o c.args.collection.now.sound c.in_ok-opened.ensures;
      all = subst (λ (p : ℕ). AllBelow p (take c.count-n.result c.in_ok-shares.shares)) (c.Q.ensures ∙ g.met.F.Field.counts) t.below;
      told = length-take-le c.count-n.result c.in_ok-shares.shares (let s = t.size in let b = o.code.places.1 in omega arith) ∙ e;
    }

pub write-requires : goal.write-requires
write-requires g c =
    let F = g.F.Field.numbers in
    let told = g.S.Source.told c.args.source.now in
    let o = c.in_ok-opened.field-0.now in
    let t = c.in_ok-shares.ensures.gathered in
    let r = c.basis_for-basis.result in
    let w : r.d ≡ o.code.count - o.code.threshold + 1 =
    width_is F c.args.collection.now.kept o told (take c.count-n.result c.in_ok-shares.shares) r c.in_ok-opened.ensures t.shares c.basis_for-basis.ensures in
    let e : c.count-n.result ≡ o.code.count = c.count-n.ensures in
    let f : c.from.result ≡ o.code.threshold = c.from.ensures ∙ c.threshold.ensures in
    let h : 5 * (c.count-n.result - c.from.result + 1) ≤ length c.args.out.now = c.if-length-n.false in
    omega arith

pub returns : goal.returns
returns g c =
    let F = g.F.Field.numbers in
    let k = c.args.collection.now.kept in
    let told = g.S.Source.told c.args.source.now in
    let o = c.in_ok-opened.field-0.now in
    let t = c.in_ok-shares.ensures.gathered in
    let r = c.basis_for-basis.result in
    let shares = take c.count-n.result c.in_ok-shares.shares in
    let out = c.args.out.now in
    let opened = c.in_ok-opened.ensures in
    let e : c.count-n.result ≡ o.code.count = c.count-n.ensures in
    let f : c.from.result ≡ o.code.threshold = c.from.ensures ∙ c.threshold.ensures in
    let h : 5 * (c.count-n.result - c.from.result + 1) ≤ length c.args.out.now = c.if-length-n.false in
    let passed : gathering_fault F.q o.code.count told ≡ None =
    ap₂ (λ (p n : ℕ). gathering_fault p n told) (sym (c.Q.ensures ∙ g.met.F.Field.counts)) (sym e) ∙ sym c.in_ok-shares.ensures.fault in
    record {
      fault = sym (fault_by F.q k o told (length out) opened passed None (fits_area o.code.count o.code.threshold (length out) (omega arith)));
      area = area_by F k o told shares r opened t.shares c.basis_for-basis.ensures out c.write.new.out c.write.ensures;
      weights = weights_by F k o told shares r opened t.shares c.basis_for-basis.ensures (record { w1 = to_z w16 (of_z w16 r.w1); w2 = to_z w16 (of_z w16 r.w2) }) (omega (arith, ints)) (omega (arith, ints));
    }
