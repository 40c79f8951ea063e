-- Replies may stand in a Body.
use Rattle.std.proofs.Common.{◌≡◌, ℕ, true, List, [], ◌∷◌}
use Rattle.{std.specs.Str.is_utf8, nbfx_values.specs.declared.content.Item.TheVariants.Close}
use Rattle.nbfx_values.proofs.{OnLiterals.values_on_literals, Positions.stepped}
use Rattle.nbfx_values.specs.declared.position.Position.TheVariants.{Within}
use Rattle.soap_envelope.specs.Making.{IsContent, words}
use Rattle.action_dispatch.specs.Services.{text_reply}

pub text_reply-content : (text : List ℕ) → is_utf8 text ≡ true → IsContent (text_reply text)
unfolding values_on_literals
text_reply-content text h = stepped (Within 1 true) (words text) (Close ∷ []) h
