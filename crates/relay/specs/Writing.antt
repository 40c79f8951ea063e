-- What a carrier has written and gathered, and of which events that is.
use Rattle.std.specs.Prelude.{◌≡◌, ℕ, true, false, ◌⊎◌, List}
use Rattle.std.specs.Option.{option_map}
use Rattle.nbfx_values.specs.QuotasOf.{limits_of}
use Rattle.nbfx_encoder.specs.{declared.sender.Sender.Sender, Refusals.told}
use Rattle.nbfx_encoder.specs.Sending.{kind_in, limits_in, mode_in, names_in, side_in, state_in}
use Rattle.stream_loop.specs.declared.outbound.Outbound.TheVariants.{Done}
use Rattle.stream_loop.specs.{Parts.Part, PartsGiven.IsLittle, PartsGiven.WasGiven}
use Rattle.io_edges.specs.Views.{SinkView}
use Rattle.session_report.specs.declared.reading.Event.{Event}
use Rattle.relay.specs.declared.carrier.{Carrier.Carrier, CarrySettings.CarrySettings}
use Rattle.relay.specs.Carried.{Carried, carried_by, carries, Carrying, start}
use Rattle.nbfx_encoder.specs.declared.sender.Side.TheVariants.{Initiator}
use Rattle.stream_loop.specs.PartsDue.{AreDue}
use Rattle.relay.specs.{Events.faulted_along}
use Rattle.relay.specs.Events.{has_begun, kind_in as kind_named, mode_in as mode_named}

-- how settings have a direction written that these bytes open
abbrev pub carrying_by : CarrySettings → (opening : List ℕ) → Carrying
carrying_by s opening = record {
  side = s.side;
  limits = limits_of s.quotas;
  statics = s.statics.now;
  mode = s.mode;
  kind = s.kind;
  opening = opening;
}

-- how a sending half does
abbrev pub carrying_with : Sender → (opening : List ℕ) → Carrying
carrying_with sender opening = record {
  side = side_in sender;
  limits = limits_in sender;
  statics = (names_in sender).statics;
  mode = mode_in sender;
  kind = kind_in sender;
  opening = opening;
}

-- and a carrier
abbrev pub carrying_of : Carrier → Carrying
carrying_of c = carrying_with c.sender c.opening.items

-- more may be written
abbrev pub IsGoing : Carrier → Type 0
IsGoing c = c.parts.outbound ≡ Done

-- nothing more is put
abbrev pub HasStopped : Carrier → Type 0
HasStopped c = (IsGoing c → ⊥) ⊎ (c.over ≡ true)

-- a carrier is where events leave its direction
pub record IsAt (s : Carried) (c : Carrier) : Type 0 where
  pub moment_is : state_in c.sender ≡ s.moment
  pub table_is : names_in c.sender ≡ s.table
  pub unfit_is : c.unfit ≡ option_map told s.unfit

-- the events of the front name the mode and the encoding in which the back is written
abbrev pub IsNamed : Carrying → List Event → Type 0
IsNamed x events =
    x.side ≡ Initiator → (mode_named events ≡ x.mode) × (kind_named events ≡ x.kind)

-- The session was opened behind one of these events, and what is due for all was given to a carrier
-- since the sink was like the first. It is like this now.
pub record HasPut (x : Carrying) (first : SinkView) (events : List Event) (c : Carrier)
    (now : SinkView) : Type 0 where
  pub parts : List Part
  pub due : AreDue (carries x) (λ s. s.documents) (start x) events parts
  pub given : WasGiven first parts c.parts now
  pub little : IsLittle c.parts
  pub begun : (carried_by x events).begun ≡ true
  pub opened : has_begun x.side events ≡ true
  pub named : IsNamed x events
  pub is_at : IsGoing c → IsAt (carried_by x events) c

abbrev pub HasCarried : Carrying → SinkView → List Event → Carrier → SinkView → Type 0
HasCarried x first events c now =
    HasPut x first events c now × (c.faulted ≡ faulted_along false events)
