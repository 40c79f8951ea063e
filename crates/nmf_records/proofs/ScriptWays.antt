-- The way through what is due, record by record.
use Rattle.std.proofs.Common.{◌≡◌, true, List, [], ◌∷◌, ◌++◌, refl, ap, subst}
use Rattle.nbfx_values.specs.declared.session.Mode.{Mode}
use Rattle.nmf_records.specs.{declared.frame.Frame.Frame, RecordFronts.MayCome, Script.NamesMode}
use Rattle.nmf_records.specs.declared.script.{Direction.Direction, Due.Due}
use Rattle.nmf_records.specs.Script.{due_behind, first, leads, LeadsToEnd, may_come, may_end}
use Rattle.nmf_records.specs.declared.frame.Frame.TheVariants as frames
use Rattle.nmf_records.specs.declared.script.Due.TheVariants as dues

-- from there on each record may come where those before it led, and they lead to where the stream
-- may end
abbrev pub Follows : Direction → Mode → Due → List Frame → Type 0
Follows direction mode due [] = may_end direction mode due ≡ true
Follows direction mode due (frame ∷ rest) =
    MayCome (may_come direction due) frame × NamesMode mode frame × Follows direction mode
    (leads direction mode due frame) rest

module _ (direction : Direction) (mode : Mode) where
  follows_at : (due : Due) (before after : List Frame) (frame : Frame) → Follows direction mode due
      (before ++ frame ∷ after)
      → MayCome (may_come direction (due_behind direction mode due before)) frame
      × NamesMode mode frame
  follows_at due [] after frame h = (h.0, h.1)
  follows_at due (x ∷ before) after frame h = follows_at (leads direction mode due x) before after
      frame h.2

  follows_ended : (due : Due) (script : List Frame) → Follows direction mode due script
      → may_end direction mode (due_behind direction mode due script) ≡ true
  follows_ended due [] h = h
  follows_ended due (x ∷ rest) h = follows_ended (leads direction mode due x) rest h.2

  pub way_from_follows : (script : List Frame) → Follows direction mode (first direction) script
      → LeadsToEnd direction mode script
  way_from_follows script h = record {
    each = λ before after frame e. follows_at (first direction) before after frame
        (subst (Follows direction mode (first direction)) e h);
    ended = follows_ended (first direction) script h;
  }

  follows_from : (due : Due) (script : List Frame)
      → ((before after : List Frame) (frame : Frame) → script ≡ before ++ frame ∷ after
      → MayCome (may_come direction (due_behind direction mode due before)) frame
      × NamesMode mode frame)
      → may_end direction mode (due_behind direction mode due script) ≡ true → Follows direction
      mode due script
  follows_from due [] each ended = ended
  follows_from due (x ∷ rest) each ended =
      let here = each [] rest x refl in (
        here.0,
        here.1,
        follows_from (leads direction mode due x) rest
            (λ before after frame e. each (x ∷ before) after frame (ap (λ l. x ∷ l) e)) ended,
      )

  pub follows_from_way : (script : List Frame) → LeadsToEnd direction mode script
      → Follows direction mode (first direction) script
  follows_from_way script w = follows_from (first direction) script w.each w.ended

-- nothing comes where the session is over
pub nothing_comes : (direction : Direction) (frame : Frame) → MayCome (may_come direction dues.Over)
    frame → ⊥
nothing_comes direction frames.Via h = cc
nothing_comes direction _ h = cc

pub over_is : (direction : Direction) (mode : Mode) (script : List Frame) → Follows direction mode
    dues.Over script → script ≡ []
over_is direction mode [] h = refl
over_is direction mode (frame ∷ rest) h = absurd (nothing_comes direction frame h.0)
