-- What a relay is set to.
use Rattle.std.specs.Prelude.{ℕ, List, Option}
use Rattle.nbfx_values.specs.{declared.limits.Two.Two, QuotasOf.limits_of}
use Rattle.string_tables.specs.StaticStrings.{Entry}
use Rattle.stream_reader.specs.Sides.{endpoint_of}
use Rattle.relay.specs.{declared.settings.RelaySettings.RelaySettings, Relayed.Relay}

abbrev pub relaying : (front back : List Entry) → Two → (endpoint : Option (List ℕ))
    → (via : List ℕ) → Relay
relaying front back quotas endpoint via = record {
  front = front;
  back = back;
  forward = limits_of quotas.forward;
  backward = limits_of quotas.back;
  endpoint = endpoint;
  via = via;
}

-- what settings say
abbrev pub relay_by : RelaySettings → Relay
relay_by s =
    relaying s.front.now s.back.now s.quotas.now (endpoint_of s.endpoint.now) s.via.now
