-- A reply with a text counts at least what the text does.
use Rattle.std.proofs.Common.{◌≡◌, ℕ, true, false, List, [], ◌∷◌, length, nat_lt, Some, None}
use Rattle.std.proofs.Common.{Option, refl, arith, ltb-true}
use Rattle.std.proofs.lemmas.{Bool.lt-leb, List.Sums.sum_by-cons}
use Rattle.nbfx_values.specs.{declared.content.Item.TheVariants.Close, Limits.Limits}
use Rattle.nbfx_values.specs.Measures.{content_of, item_content}
use Rattle.{least_payloads.specs.Least.may_fit, soap_envelope.specs.Making.words}
use Rattle.action_dispatch.specs.{Actions.text_for, Actions.Texts, Services.text_reply}
use Rattle.action_dispatch.specs.Services.{is_text_above, IsTooLarge, RepliesTooMuch, reply_with}

unfit_text : (limits : Limits) (text : List ℕ) → nat_lt limits.content (length text) ≡ true
    → may_fit limits (text_reply text) ≡ false
unfit_text limits text above =
    let over = ltb-true limits.content (length text) above in
    let tail = sum_by-cons item_content (words text) (Close ∷ []) in
    let unfit = lt-leb (content_of (text_reply text)) limits.content (omega arith) in
    rw unfit refl

unfit_reply : (limits : Limits) (found : Option (List ℕ))
    → is_text_above limits.content found ≡ true → IsTooLarge limits (reply_with found)
unfit_reply limits None above = absurd (cc above)
unfit_reply limits (Some text) above = unfit_text limits text above

pub replies_too_much : (limits : Limits) (texts : Texts) (action : List ℕ)
    → is_text_above limits.content (text_for texts action) ≡ true
    → RepliesTooMuch limits (λ asked body. reply_with (text_for texts asked)) action
replies_too_much limits texts action above body =
    unfit_reply limits (text_for texts action) above
