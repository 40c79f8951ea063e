use Rattle.std.proofs.Common.{◌≡◌, List, Ok, refl, subst}
use Rattle.nbfx_values.proofs.Walks.{position_of-document}
use Rattle.nbfx_values.specs.{declared.content.Item.Item, Positions.position_of}
use Rattle.line_notation.specs.LineReaderState.{ends, placed_at}
use Rattle.line_notation.proofs.PlacingFacts.{place-ends}
use Rattle.line_notation.proofs.placing.place_item.Goals as goal

pub returns-in-After : goal.returns-in-After
returns-in-After c =
    let items = c.push_within.new.self in
    let document = position_of-document items c.in-After.ensures.ends in (
      subst (λ (all : List Item). placed_at (position_of all) all ≡ Ok (ends items))
          c.in-Ok.ensures.pushed.0 (place-ends items document),
      document,
      refl,
    )
