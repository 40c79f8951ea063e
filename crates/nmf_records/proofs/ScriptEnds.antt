-- A whole script goes on to no longer one, but for the lone Ack.
use Rattle.std.proofs.Common.{◌≡◌, ◌⊎◌, List, [], ◌∷◌, ◌++◌, refl, inl, inr}
use Rattle.nbfx_values.specs.declared.session.Mode.{Mode, TheVariants.Simplex}
use Rattle.nmf_records.specs.declared.{frame.Frame.Frame, script.Due.Due}
use Rattle.nmf_records.specs.declared.script.Direction.{Direction, TheVariants.FromReceiver}
use Rattle.nmf_records.specs.Script.{due_behind, first, IsLoneAck, IsScript, leads}
use Rattle.nmf_records.proofs.{ScriptWays.Follows, ScriptWays.over_is, ScriptsLead.script_follows}
use Rattle.nmf_records.specs.declared.frame.Frame.TheVariants as frames
use Rattle.nmf_records.specs.declared.script.Due.TheVariants as dues

-- a stream that may end goes on only where End is due behind an Ack
ends_or_goes_on : (direction : Direction) (mode : Mode) (due : Due) (script more : List Frame)
    → Follows direction mode due script
    → Follows direction mode due (script ++ more)
    → (more ≡ []) ⊎ ((direction ≡ FromReceiver) × (mode ≡ Simplex)
    × (due_behind direction mode due script ≡ dues.End))
ends_or_goes_on direction mode dues.Over [] more h longer = inl (over_is direction mode more longer)
ends_or_goes_on FromReceiver Simplex dues.End [] more h longer = inr (refl, refl, refl)
ends_or_goes_on _ _ _ [] more h longer = cc
ends_or_goes_on direction mode due (x ∷ rest) more h longer =
    ends_or_goes_on direction mode (leads direction mode due x) rest more h.2 longer.2

last_leads : (direction : Direction) (mode : Mode) (due : Due) (before : List Frame) (frame : Frame)
    → due_behind direction mode due (before ++ frame ∷ []) ≡ leads direction mode
    (due_behind direction mode due before) frame
last_leads direction mode due [] frame = refl
last_leads direction mode due (x ∷ before) frame = last_leads direction mode
    (leads direction mode due x) before frame

-- what leads to an End that is due and needn't come is the lone Ack
lone_is : (direction : Direction) (mode : Mode) (script : List Frame) → direction ≡ FromReceiver
    → mode ≡ Simplex → IsScript direction mode script
    → due_behind direction mode (first direction) script ≡ dues.End → IsLoneAck mode script
lone_is FromReceiver Simplex script receiver simplex (inl answer) e =
    let over : due_behind FromReceiver Simplex dues.Ack script
    ≡ dues.Over = rw (answer.joined, answer.sent) refl in cc
lone_is FromReceiver Simplex script receiver simplex (inr (inl lone)) e = lone
lone_is FromReceiver Simplex script receiver simplex (inr (inr cut)) e =
    let over : due_behind FromReceiver Simplex dues.Ack script ≡ dues.Over = rw cut.joined
    (last_leads FromReceiver Simplex dues.Ack cut.before frames.Fault) in
    cc
lone_is _ _ script receiver simplex is e = cc

pub no_longer_script : (direction : Direction) (mode : Mode) (script more : List Frame)
    → IsScript direction mode script
    → IsScript direction mode (script ++ more) → (more ≡ [])
    ⊎ ((direction ≡ FromReceiver) × IsLoneAck mode script)
no_longer_script direction mode script more is longer =
    elim (ends_or_goes_on direction mode (first direction) script more
    (script_follows direction mode script is)
    (script_follows direction mode (script ++ more) longer)) [
      | inl none ↦ inl none
      | inr (receiver, simplex, due) ↦ inr (
        receiver,
        lone_is direction mode script receiver simplex
            is due,
      )
    ]
