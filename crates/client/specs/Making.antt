-- How a sending half is set, and where it is behind documents.
use Rattle.std.specs.Prelude.{◌≡◌, ◌≤◌, List, [], ◌∷◌, length}
use Rattle.nbfx_values.specs.{declared.content.Item.Item, QuotasOf.limits_of}
use Rattle.nbfx_values.specs.declared.session.Mode.{Mode, TheVariants.Singleton}
use Rattle.client.specs.Sent.{kind_by}
use Rattle.nbfx_encoder.specs.declared.sender.{Sender.Sender, SendState.SendState}
use Rattle.nbfx_encoder.specs.declared.sender.SendState.TheVariants.{Ready}
use Rattle.nbfx_encoder.specs.Sending.{behind_message, kind_in, limits_in, mode_in}
use Rattle.client.specs.declared.settings.CallSettings.{CallSettings}

-- where a half is behind these documents
abbrev pub moment_behind : Mode → List (List Item) → SendState
moment_behind mode [] = Ready
moment_behind mode (document ∷ documents) = behind_message mode

module _ (s : CallSettings) where
  -- a half is set to send them so
  pub record IsSet (sender : Sender) : Type 0 where
    pub limits : limits_in sender ≡ limits_of s.quotas.forward
    pub kind : kind_in sender ≡ (kind_by s)
    pub mode : mode_in sender ≡ s.mode

-- so many documents as one session of this mode may carry, or fewer
abbrev pub AreFew : Mode → List (List Item) → Type 0
AreFew mode documents = mode ≡ Singleton → length documents ≤ 1
