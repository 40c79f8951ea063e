-- A session is the records of a script, and these are a session.
use Rattle.stream_reader.specs.Scripts.{SessionsAreScripts}
use Rattle.stream_reader.proofs.{FromScript.from_script, ToScript.to_script}

pub sessions_are_scripts : SessionsAreScripts
sessions_are_scripts x bytes = (
  (λ s. to_script x x.side s.0 bytes s.1.0 s.1.1),
  (λ h. let f = from_script x x.side h.0 h.1 bytes h.2 h.3 h.4 h.5 in (f.0, (f.1, f.2))),
)
