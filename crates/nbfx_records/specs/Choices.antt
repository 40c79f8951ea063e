-- Values as a writer has them, with what they hold borrowed, seen as those of nodes.
use Rattle.nbfx_records.specs.declared.put_values.ScalarChoice.{ScalarChoice}
use Rattle.nbfx_records.specs.declared.put_values.ScalarChoice.TheVariants as choices
use Rattle.nbfx_records.specs.declared.nodes.RawScalar.{RawScalar}
use Rattle.nbfx_records.specs.declared.nodes.RawScalar.TheVariants.{Known, Dictionary, QName}

abbrev pub choice_seen : ScalarChoice → RawScalar
choice_seen (choices.Known value) = Known value.now
choice_seen (choices.Named id) = Dictionary id
choice_seen (choices.Qualified letter id) = QName letter id
