use Rattle.std.proofs.Common.{◌≡◌, true, Ok, Result, subst, arith}
use Rattle.nbfx_records.specs.declared.nodes.{Node.Node, NodeFault.NodeFault}
use Rattle.nbfx_records.specs.{Contents.contents, Judged.Made}
use Rattle.nbfx_decoder.specs.Units.{place_in}
use Rattle.nbfx_decoder.proofs.{Keeping.keeps_settings, Singles.single_made}
use Rattle.nbfx_decoder.proofs.Saying.{added_said, reads_done, record_few, shape_size, shape_valid}
use Rattle.nbfx_decoder.proofs.units.UnitReader.pass_quickly.Goals as goal

pub add_quickly-requires-clause-valid : goal.add_quickly-requires-clause-valid
add_quickly-requires-clause-valid c =
    let it = c.requires.stands in
    let e : contents it.shape ≡ Ok c.in-Ok.node = subst
    (λ (m : Result Node NodeFault). Made m (contents it.shape)) c.in-Ok.is it.makes.made in
    shape_valid (place_in c.args.self.now) it.stands.bytes it.shape c.args.used it.stands.has
    c.in-Ok.node e it.stands.are

pub add_quickly-requires-clause-single : goal.add_quickly-requires-clause-single
add_quickly-requires-clause-single c =
    let it = c.requires.stands in
    let e : contents it.shape ≡ Ok c.in-Ok.node = subst
    (λ (m : Result Node NodeFault). Made m (contents it.shape)) c.in-Ok.is it.makes.made in
    single_made it.shape it.single c.in-Ok.node e

pub advance-requires : goal.advance-requires
advance-requires c =
    let few = record_few c.args.self.now c.requires.stands.shape c.args.used
    c.requires.stands.stands in
    let same = c.add_quickly.ensures.from in
    omega (arith, few, same)

pub returns : goal.returns
returns c shape bytes has makes =
    let e : contents shape ≡ Ok c.in-Ok.node = subst
    (λ (m : Result Node NodeFault). Made m (contents shape)) c.in-Ok.is makes.made in
    let is : c.add_quickly.result ≡ true = (let no = c.if-not-add_quickly.false in cc) in
    record {
      read = reads_done c.args.self.now c.add_quickly.new.self c.advance.new.self bytes c.args.used
          (λ x z from at. added_said c.args.self.now x z from at c.requires.here bytes shape
          c.args.used has c.in-Ok.node e c.add_quickly.new.self
          (c.add_quickly.ensures.answers is x z from at))
          (shape_size (place_in c.args.self.now) bytes shape c.args.used has.whole)
          (keeps_settings c.add_quickly.ensures.kept) c.add_quickly.ensures.from c.advance.ensures.kept
          c.advance.ensures.from c.advance.ensures.section c.advance.ensures.items;
      unread = tt;
    }
