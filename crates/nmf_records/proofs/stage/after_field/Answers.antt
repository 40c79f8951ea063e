use Rattle.std.proofs.Common.{◌≡◌, [], ◌∷◌, refl}
use Rattle.nmf_records.proofs.Typed.{behind_version, behind_major, behind_mode, behind_encoding}
use Rattle.nmf_records.proofs.stage.after_field.Goals as goal

pub returns-in-Major-clause-reads : goal.returns-in-Major-clause-reads
returns-in-Major-clause-reads c = λ limits expect p shape h. behind_version limits expect
    c.args.byte
    p (rw c.in-Major.is at shape) h

pub returns-in-Minor-clause-reads : goal.returns-in-Minor-clause-reads
returns-in-Minor-clause-reads c = λ limits expect p shape h.
    let e : p ≡ 0 ∷ c.in-Minor.major ∷ [] = rw c.in-Minor.is at shape in
    ([], rw e (behind_major limits expect c.args.byte c.in-Minor.major _ refl (rw e at h)))

pub returns-in-Mode-clause-reads : goal.returns-in-Mode-clause-reads
returns-in-Mode-clause-reads c = λ limits expect p shape h.
    let e : p ≡ 1 ∷ [] = rw c.in-Mode.is at shape in
    ([], rw e (behind_mode limits expect c.args.byte _ refl (rw e at h)))

pub returns-in-Encoding-clause-reads : goal.returns-in-Encoding-clause-reads
returns-in-Encoding-clause-reads c = λ limits expect p shape h.
    let e : p ≡ 3 ∷ [] = rw c.in-Encoding.is at shape in
    ([], rw e (behind_encoding limits expect c.args.byte _ refl (rw e at h)))
