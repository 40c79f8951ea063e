use Rattle.std.proofs.Common.{refl}
use Rattle.nbfx_decoder.proofs.{Readable.readable, Sound.keeps_within, Sound.somewhere}
use Rattle.nbfx_decoder.proofs.laws.situations.Goals as goal

pub returns : goal.returns
returns c = record {
  within = λ x strings p. keeps_within x strings (readable x strings) p;
  fronts = λ x strings p texts bytes. rw (somewhere x strings (readable x strings) texts p
      bytes).leads refl;
  texts = λ x strings p texts bytes. (somewhere x strings (readable x strings) texts p bytes).texts;
}
