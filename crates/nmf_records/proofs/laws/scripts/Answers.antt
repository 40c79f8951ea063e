use Rattle.nmf_records.proofs.{ScriptEnds.no_longer_script, WaysAreScripts.script_is}
use Rattle.nmf_records.proofs.ScriptWays.{follows_from_way, way_from_follows}
use Rattle.nmf_records.proofs.ScriptsLead.{script_follows}
use Rattle.nmf_records.proofs.laws.scripts.Goals as goal

pub returns-clause-ways : goal.returns-clause-ways
returns-clause-ways c direction mode script = (
  λ is. way_from_follows direction mode script (script_follows direction mode script is),
  λ way. script_is direction mode script (follows_from_way direction mode script way),
)

pub returns-clause-none_goes_on : goal.returns-clause-none_goes_on
returns-clause-none_goes_on c = no_longer_script
