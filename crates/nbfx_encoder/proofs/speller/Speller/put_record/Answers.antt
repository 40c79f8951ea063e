use Rattle.nbfx_encoder.proofs.Records.{puts_item, puts_text}
use Rattle.nbfx_encoder.proofs.speller.Speller.put_record.Goals as goal

pub returns-in-Some-clause-put : goal.returns-in-Some-clause-put
returns-in-Some-clause-put c =
    let (rest, is) = c.in-Some.ensures.some in
    puts_text c.args.items.now c.in-Some.value.now rest c.args.at c.put_value.result c.said.result
    c.args.self.now c.put_value.new.self is c.put_value.ensures.spelled c.said.ensures.put
    c.said.ensures.refused

pub returns-in-None-clause-put : goal.returns-in-None-clause-put
returns-in-None-clause-put c =
    puts_item c.args.items.now c.index-items-0.result c.args.at c.put_item.result
    c.said-in-None.result c.args.self.now c.put_item.new.self c.requires.some c.index-items-0.is
    c.in-None.ensures.none c.put_item.ensures.spelled c.said-in-None.ensures.put
    c.said-in-None.ensures.refused
