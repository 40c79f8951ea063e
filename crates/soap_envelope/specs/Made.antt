-- What is seen of the replies and faults that are made.
use Rattle.std.specs.Prelude.{◌≡◌, ℕ, ◌+◌, true, false, List, [], ◌∷◌, ◌++◌, length, Some, None}
use Rattle.{std.specs.Prelude.codes, nbfx_values.specs.declared.content.Item.Item}
use Rattle.soap_envelope.specs.{declared.blocks.Block.Block, View.View}
use Rattle.soap_envelope.specs.{BadNames.first_bad_name, Qualified.Name}
use Rattle.soap_envelope.specs.{Names.qualified_name, Names.soap, Versions.namespace}
use Rattle.soap_envelope.specs.declared.versions.Addressing.{Addressing}
use Rattle.soap_envelope.specs.Scopes.{declaration, Scope}

-- the declarations within the root of a reply in a version, and within its Header and its Body
abbrev pub reply_root : Addressing → Scope
reply_root version =
    (declaration (codes "s") soap ∷ declaration (codes "a") (namespace version) ∷ []) ∷ []

abbrev pub reply_scope : Addressing → Scope
reply_scope version = [] ∷ reply_root version

-- the names of a content of Body are good there, wherever it begins
abbrev pub StandsInReplies : Addressing → List Item → Type 0
StandsInReplies version body = (at : ℕ) → first_bad_name (reply_scope version) at body ≡ None

-- the blocks in their order: Action
abbrev pub action_seen : Addressing → Block
action_seen version = record {
  name = qualified_name (namespace version) (codes "Action");
  must_understand = true;
  targeted = true;
  from = 4;
  to = 7;
}

-- RelatesTo, where there are texts
abbrev pub relates_seen : Addressing → List Item → List Block
relates_seen version [] = []
relates_seen version texts = record {
  name = qualified_name (namespace version) (codes "RelatesTo");
  must_understand = false;
  targeted = true;
  from = 8;
  to = 9 + length texts;
} ∷ []

-- the place after both
abbrev pub behind_relates : List Item → ℕ
behind_relates [] = 8
behind_relates texts = 10 + length texts

-- and one for each name that wasn't understood
abbrev pub name_seen : ℕ → Block
name_seen at = record {
  name = qualified_name soap (codes "NotUnderstood");
  must_understand = false;
  targeted = true;
  from = at;
  to = at + 3;
}

abbrev pub names_seen : ℕ → List Name → List Block
names_seen at [] = []
names_seen at (name ∷ more) = name_seen at ∷ names_seen (at + 4) more

-- the place after those
abbrev pub behind_names : ℕ → List Name → ℕ
behind_names at [] = at
behind_names at (name ∷ more) = behind_names (at + 4) more

-- the blocks of what has these texts of RelatesTo and these names
abbrev pub blocks_seen : Addressing → (relates : List Item) → List Name → List Block
blocks_seen version relates names =
    action_seen version
    ∷ (relates_seen version relates ++ names_seen (behind_relates relates) names)

-- the view of what is in a version and has this action, these texts of RelatesTo, these names, and
-- this content of Body
abbrev pub made_view : Addressing → List ℕ → (relates : List Item) → List Name
    → (body : List Item) → View
made_view version action relates names body = record {
  blocks = blocks_seen version relates names;
  version = version;
  action = Some action;
  reply_address = None;
  message_id = [];
  body_at = behind_names (behind_relates relates) names + 1;
  body = body;
}
