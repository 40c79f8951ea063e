-- All values of a line, in a loop over its tokens.
use Rattle.std.proofs.Common.{◌≡◌, ℕ, ◌+◌, ◌^◌, ◌<◌, ◌≤◌, ◌⊎◌, List, [], ◌∷◌, length, Some, None}
use Rattle.std.proofs.Common.{Ok, Err, Option, sym, refl, ap, ◌∙◌, subst, inl, inr, arith}
use Rattle.line_notation.specs.declared.values.{Gathering.Gathering, Tally.Tally}
use Rattle.line_notation.specs.declared.values.{Holder.Holder, JudgedToken.JudgedToken}
use Rattle.line_notation.specs.declared.words.Stop.{Stop, TheVariants.Memory, TheVariants.NotALine}
use Rattle.line_notation.specs.{Options.◌>>=◌, Steps.Stops, Values.Written}
use Rattle.line_notation.specs.Parts.{gathered_in, IsTooMuch, judged_due, judged_scalars}
use Rattle.line_notation.specs.Parts.{judged_token_at, no_values, tallied, with_token}
use Rattle.line_notation.specs.Values.{how_many, no_more, Token, token_at, tokens_within, values_in}
use Rattle.line_notation.proofs.GatherFacts.{BeginsOne, finish, finish-step, finish-too_much}
use Rattle.line_notation.proofs.GatherFacts.{finished-enough, finished-few, IsInOne, joined}
use Rattle.line_notation.proofs.GatherFacts.{joined-none, none-joined, put, some_same}
use Rattle.line_notation.proofs.GatherFacts.{tallied-either}
use Rattle.line_notation.proofs.TokenFacts.{is_judged, not_judged, Shortens, token_at-shortens}
use Rattle.line_notation.proofs.TokenFacts.{values_in-few, values_in-step}
use Rattle.line_notation.specs.declared.values.Holder.TheVariants as holders
use Rattle.line_notation.specs.declared.values.JudgedToken.TheVariants as tokens

-- so far these values have come of those in all words
pub record HasGathered (holder : Holder) (all left : List (List ℕ)) (g : Gathering) : Type 0 where
  pub same : gathered_in holder all ≡ finish holder g (values_in left)
  pub room : length left ≤ 2 ^ 63 → g.tally.count + length left ≤ 2 ^ 63

-- where nothing has come
finish-none : (holder : Holder) (read : Option Written)
    → (read >>= λ written. Some (how_many written, judged_scalars holder written))
    ≡ finish holder no_values read
finish-none holder None = refl
finish-none holder (Some written) =
    sym (finished-enough 0 0 (how_many written) (joined (Ok []) (judged_scalars holder written))
    (omega arith)
    ∙ ap (λ n. Some (n, joined (Ok []) (judged_scalars holder written))) (omega arith)
    ∙ ap (λ values. Some (how_many written, values)) (none-joined (judged_scalars holder written)))

pub gather-begins : (holder : Holder) (words : List (List ℕ)) → HasGathered holder words words
    no_values
gather-begins holder words = record {
  same = finish-none holder (values_in words);
  room = λ few.
      omega arith;
}

-- a token is of one value more at most
tally-more : (t : Tally) (n : ℕ) → (tallied t n).count ≤ t.count + 1
tally-more t n = go (tallied-either t n)
  where
    go : BeginsOne t (tallied t n) n ⊎ IsInOne t (tallied t n) n → (tallied t n).count ≤ t.count + 1
    go (inl h) = omega (arith, h.count)
    go (inr h) = omega (arith, h.count)

count-more : (holder : Holder) (g g' : Gathering) (token : JudgedToken) → with_token holder g token
    ≡ Some g' → g'.tally.count ≤ g.tally.count + 1
count-more holder g g' (tokens.Scalar s) e = subst (λ h. h.tally.count ≤ g.tally.count + 1)
    (some_same e) (tally-more g.tally 0)
count-more holder g g' (tokens.Count (Ok n)) e = subst (λ h. h.tally.count ≤ g.tally.count + 1)
    (some_same e) (tally-more g.tally n)
count-more holder g g' (tokens.Count (Err refusal)) e = absurd cc

-- and of fewer words
pub fewer-left : (left rest : List (List ℕ)) (token : JudgedToken) → judged_token_at (token_at left)
    ≡ Some (token, rest) → length rest < length left
unfolding Shortens
fewer-left left rest token read = let j = is_judged (token_at left) token rest read in
    token_at-shortens left (j.token, rest) j.read_is

-- the values in words, by the token in front of them
step-same : (holder : Holder) (g : Gathering) (word : List ℕ) (words rest : List (List ℕ))
    (token : Token) → token_at (word ∷ words) ≡ Some (token, rest)
    → finish holder g (values_in (word ∷ words)) ≡ finish holder g (values_in rest >>= put token)
step-same holder g word words rest token e = ap (finish holder g)
    (values_in-step word words ∙ ap (λ read. read >>= λ t. values_in t.1 >>= put t.0) e)

-- a token more
pub gather-goes_on : (holder : Holder) (all left rest : List (List ℕ)) (g g' : Gathering)
    (token : JudgedToken) → (left ≡ [] → ⊥) → length left ≤ 2 ^ 63
    → HasGathered holder all left g → judged_token_at (token_at left) ≡ Some (token, rest)
    → with_token holder g token ≡ Some g' → HasGathered holder all rest g'
unfolding Shortens
gather-goes_on holder all [] rest g g' token some few h read more = absurd (some refl)
gather-goes_on holder all (word ∷ words) rest g g' token some few h read more =
    let j = is_judged (token_at (word ∷ words)) token rest read in
    record {
      same = h.same ∙ step-same holder g word words rest j.token j.read_is ∙ finish-step holder g g'
          j.token (values_in rest) (ap (with_token holder g) j.judged_is ∙ more);
      room = λ less. room_left _ _ _ _ (h.room few) (count-more holder g g' token more)
          (token_at-shortens (word ∷ words) (j.token, rest) j.read_is);
    }
  where
    room_left : (c c' l l' : ℕ) → c + l ≤ 2 ^ 63 → c' ≤ c + 1 → l' < l → c' + l' ≤ 2 ^ 63
    room_left c c' l l' a b d = omega arith

-- what is no token
gather-no_token : (holder : Holder) (all left : List (List ℕ)) (g : Gathering) → (left ≡ [] → ⊥)
    → HasGathered holder all left g → judged_token_at (token_at left) ≡ None → gathered_in holder
    all ≡ None
gather-no_token holder all [] g some h none = absurd (some refl)
gather-no_token holder all (word ∷ words) g some h none =
    h.same ∙ ap (finish holder g)
    (values_in-step word words ∙ ap (λ read. read >>= λ t. values_in t.1 >>= put t.0)
    (not_judged (token_at (word ∷ words)) none))

gather-too_much : (holder : Holder) (all left rest : List (List ℕ)) (g : Gathering)
    (token : JudgedToken) → (left ≡ [] → ⊥) → length left ≤ 2 ^ 63
    → HasGathered holder all left g → judged_token_at (token_at left) ≡ Some (token, rest)
    → IsTooMuch (with_token holder g token) → gathered_in holder all ≡ None
unfolding Shortens
gather-too_much holder all [] rest g token some few h read much = absurd (some refl)
gather-too_much holder all (word ∷ words) rest g token some few h read much =
    let j = is_judged (token_at (word ∷ words)) token rest read in
    let fewer = token_at-shortens (word ∷ words) (j.token, rest) j.read_is in
    h.same ∙ step-same holder g word words rest j.token j.read_is
    ∙ finish-too_much holder g j.token (values_in rest)
    (subst (λ t. IsTooMuch (with_token holder g t)) (sym j.judged_is) much)
    (values_in-few rest (left_few _ _ few fewer))
  where
    left_few : (l l' : ℕ) → l ≤ 2 ^ 63 → l' < l → l' ≤ 2 ^ 63
    left_few l l' a b = omega arith

-- no token, or too much, or no memory
pub gather-stops : (holder : Holder) (all left : List (List ℕ)) (g : Gathering) (stop : Stop)
    → (left ≡ [] → ⊥)
    → HasGathered holder all left g → Stops stop (judged_token_at (token_at left))
    → Stops stop (gathered_in holder all)
gather-stops holder all left g NotALine some h none = gather-no_token holder all left g some h none
gather-stops holder all left g Memory some h none = tt

pub gather-refuses : (holder : Holder) (all left rest : List (List ℕ)) (g : Gathering)
    (token : JudgedToken) (stop : Stop) → (left ≡ [] → ⊥) → length left ≤ 2 ^ 63
    → HasGathered holder all left g → judged_token_at (token_at left) ≡ Some (token, rest)
    → (stop ≡ NotALine → IsTooMuch (with_token holder g token))
    → Stops stop (gathered_in holder all)
gather-refuses holder all left rest g token NotALine some few h read much = gather-too_much holder
    all left rest g token some few h read (much refl)
gather-refuses holder all left rest g token Memory some few h read much = tt

-- the end
none-judged : (holder : Holder) (due : ℕ) → judged_due holder due no_more ≡ Ok []
none-judged holders.List due = refl
none-judged (holders.Array kind) due = refl
none-judged holders.Nothing due = refl

pub gather-ends : (holder : Holder) (all : List (List ℕ)) (g : Gathering) → HasGathered holder all
    [] g → g.tally.due ≡ 0 → gathered_in holder all ≡ Some (g.tally.count, g.values)
unfolding tokens_within
gather-ends holder all g h none =
    h.same ∙ finished-enough g.tally.count g.tally.due 0
    (joined g.values (judged_due holder g.tally.due no_more)) (omega (arith, none))
    ∙ ap (λ n. Some (n, joined g.values (judged_due holder g.tally.due no_more))) (omega arith)
    ∙ ap (λ values. Some (g.tally.count, values))
    (ap (joined g.values) (none-judged holder g.tally.due) ∙ joined-none g.values)

pub gather-is_cut : (holder : Holder) (all : List (List ℕ)) (g : Gathering) → HasGathered holder all
    [] g → 0 < g.tally.due → gathered_in holder all ≡ None
unfolding tokens_within
gather-is_cut holder all g h some = h.same ∙ finished-few g.tally.count g.tally.due 0
    (joined g.values (judged_due holder g.tally.due no_more)) some
