-- What is written of an attribute and of an array, by what their parts wrote.
use Rattle.std.proofs.Common.{◌≡◌, ℕ, List, [], ◌++◌, Ok, Err, Option, Result, option_map, sym}
use Rattle.std.proofs.Common.{refl, ap, ◌∙◌, append_assoc, append-nil}
use Rattle.std.specs.Prelude.{⊤}
use Rattle.nbfx_encoder.specs.declared.speller.{SpellFault.SpellFault, Speller.Speller}
use Rattle.nbfx_encoder.specs.declared.speller.SpellFault.TheVariants.{Memory, Unnamed}
use Rattle.nbfx_encoder.specs.{Inside.Answers, Inside.names_of, Inside.Wrote, Placing.Placed}

-- behind a front, and with an end, what was written of a part is that of the whole which it makes
module _ {X Y : Type 0} (make : X → Y) (front behind : List ℕ) (inner : X → List ℕ)
    (outer : Y → List ℕ)
    (same : (x : X) → front ++ (inner x ++ behind) ≡ outer (make x)) where
  wrote_made : (found : Option (Placed X)) (old mid late new : Speller) → Wrote found inner mid late
      → names_of new ≡ names_of late → mid.nodes.items ≡ old.nodes.items ++ front
      → new.nodes.items ≡ late.nodes.items ++ behind
      → Wrote (option_map (λ p. (make p.0, p.1)) found) outer old new
  wrote_made found old mid late new wrote names before after = record {
    placed = (make wrote.placed.0, wrote.placed.1);
    found_is = ap (option_map (λ p. (make p.0, p.1))) wrote.found_is;
    table = names ∙ wrote.table;
    nodes = after ∙ ap (λ l. l ++ behind)
        (wrote.nodes ∙ ap (λ l. l ++ inner wrote.placed.0) before
        ∙ append_assoc old.nodes.items front (inner wrote.placed.0))
        ∙ append_assoc old.nodes.items (front ++ inner wrote.placed.0) behind
        ∙ ap (λ l. old.nodes.items ++ l)
        (append_assoc front (inner wrote.placed.0) behind ∙ same wrote.placed.0);
  }

  pub made_answers : (found : Option (Placed X)) (result : Result ⊤ SpellFault)
      (old mid new : Speller) → Answers found inner result mid new
      → mid.nodes.items ≡ old.nodes.items ++ front → behind ≡ []
      → Answers (option_map (λ p. (make p.0, p.1)) found) outer result old new
  made_answers found (Ok u) old mid new wrote before none =
      wrote_made found old mid new new wrote refl before
      (sym (append-nil new.nodes.items) ∙ ap (λ l. new.nodes.items ++ l) (sym none))
  made_answers found (Err Unnamed) old mid new isnt before none =
      ap (option_map (λ p. (make p.0, p.1))) isnt
  made_answers found (Err Memory) old mid new any before none = tt

  pub made_wrote : (found : Option (Placed X)) (old mid late new : Speller)
      → Wrote found inner mid late → names_of new ≡ names_of late
      → mid.nodes.items ≡ old.nodes.items ++ front → new.nodes.items ≡ late.nodes.items ++ behind
      → Wrote (option_map (λ p. (make p.0, p.1)) found) outer old new
  made_wrote = wrote_made
