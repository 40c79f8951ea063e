-- What stands before a record that is cut out of a script.
use Rattle.std.proofs.Common.{◌≡◌, ℕ, List, [], ◌∷◌, ◌++◌, map, IsSome, refl, ap, ◌∙◌, subst, inl}
use Rattle.{std.proofs.Common.inr, nbfx_values.specs.declared.session.Mode.Mode}
use Rattle.nbfx_values.specs.declared.session.Mode.TheVariants.{Duplex, Simplex, Singleton}
use Rattle.nmf_records.specs.declared.{frame.Frame.Frame, script.Direction.TheVariants.FromReceiver}
use Rattle.nmf_records.specs.{Records.type_of, Script.AreEnvelopes, Script.AreSized}
use Rattle.nmf_records.specs.declared.frame.Frame.TheVariants as frames

-- where one with a type is cut out of chunks, it is the End behind them
behind_chunks : (sizes : List ℕ) (more after : List Frame) (frame last : Frame)
    → IsSome (type_of frame)
    → more ++ frame ∷ after ≡ (map frames.Chunk sizes ++ frames.Chunk 0 ∷ []) ++ last ∷ []
    → more ≡ map frames.Chunk sizes ++ frames.Chunk 0 ∷ []
behind_chunks [] [] after frame last typed e =
    let same : frame ≡ frames.Chunk 0 = cc in
    let bad = subst (λ (f : Frame). IsSome (type_of f)) same typed in cc
behind_chunks [] (m ∷ []) after frame last typed e =
    let same : m ≡ frames.Chunk 0 = cc in ap (λ (f : Frame). f ∷ []) same
behind_chunks [] (m ∷ n ∷ more) after frame last typed e =
    let rest : more ++ frame ∷ after ≡ [] = cc in absurd (never_more more rest) where
      never_more : (more : List Frame) → more ++ frame ∷ after ≡ [] → ⊥
      never_more [] e = cc
      never_more (f ∷ more) e = cc
behind_chunks (size ∷ sizes) [] after frame last typed e =
    let same : frame ≡ frames.Chunk size = cc in
    let bad = subst (λ (f : Frame). IsSome (type_of f)) same typed in cc
behind_chunks (size ∷ sizes) (m ∷ more) after frame last typed e =
    let same : m ≡ frames.Chunk size = cc in
    let rest : more ++ frame ∷ after ≡ (map frames.Chunk sizes ++ frames.Chunk 0 ∷ []) ++ last ∷ []
    = cc in
    let w = behind_chunks sizes more after frame last typed rest in
    ap (λ (f : Frame). f ∷ more) same ∙ ap (λ (fs : List Frame). frames.Chunk size ∷ fs) w

-- what stands before a record that is cut out of sized envelopes and End
before_sized : (sizes : List ℕ) (more after : List Frame) (frame : Frame)
    → more ++ frame ∷ after ≡ map frames.SizedEnvelope sizes ++ frames.End ∷ [] → AreSized more
before_sized sizes [] after frame e = ([], refl)
before_sized [] (m ∷ more) after frame e =
    let rest : more ++ frame ∷ after ≡ [] = cc in absurd (never_more more rest)
  where
    never_more : (more : List Frame) → more ++ frame ∷ after ≡ [] → ⊥
    never_more [] e = cc
    never_more (f ∷ more) e = cc
before_sized (size ∷ sizes) (m ∷ more) after frame e =
    let same : m ≡ frames.SizedEnvelope size = cc in
    let rest : more ++ frame ∷ after ≡ map frames.SizedEnvelope sizes ++ frames.End ∷ [] = cc in
    let w = before_sized sizes more after frame rest in (
      size ∷ w.0,
      ap (λ (f : Frame). f ∷ more) same
          ∙ ap (λ (fs : List Frame). frames.SizedEnvelope size ∷ fs) w.1,
    )

-- an answer that a Fault ends has whole envelopes
pub cut_envelopes : (mode : Mode) (envelopes more after : List Frame) (frame : Frame)
    → IsSome (type_of frame) → AreEnvelopes FromReceiver mode envelopes
    → more ++ frame ∷ after ≡ envelopes ++ frames.End ∷ [] → AreEnvelopes FromReceiver mode more
cut_envelopes Duplex envelopes more after frame typed (sizes, are) e =
    before_sized sizes more after frame (e ∙ ap (λ (fs : List Frame). fs ++ frames.End ∷ []) are)
cut_envelopes Simplex envelopes [] after frame typed are e = refl
cut_envelopes Simplex envelopes (m ∷ more) after frame typed are e =
    let w = before_sized [] (m ∷ more) after frame
    (e ∙ ap (λ (fs : List Frame). fs ++ frames.End ∷ []) are) in
    none w.0 m more after frame (e ∙ ap (λ (fs : List Frame). fs ++ frames.End ∷ []) are)
  where
    none : (sizes : List ℕ) (m : Frame) (more after : List Frame) (frame : Frame)
        → m ∷ more ++ frame ∷ after ≡ frames.End ∷ [] → m ∷ more ≡ []
    none sizes m [] after frame e = cc
    none sizes m (n ∷ more) after frame e = cc
cut_envelopes Singleton envelopes [] after frame typed are e = inl refl
cut_envelopes Singleton envelopes (m ∷ more) after frame typed (inl none) e =
    absurd (never m more (e ∙ ap (λ (fs : List Frame). fs ++ frames.End ∷ []) none))
  where
    never : (m : Frame) (more : List Frame) → m ∷ more ++ frame ∷ after ≡ frames.End ∷ [] → ⊥
    never m [] e = cc
    never m (n ∷ more) e = cc
cut_envelopes Singleton envelopes (m ∷ more) after frame typed (inr (sizes, some, are)) e =
    let all : m ∷ more ++ frame ∷ after
    ≡ frames.UnsizedEnvelope ∷ (map frames.Chunk sizes ++ frames.Chunk 0 ∷ []) ++ frames.End ∷ [] =
    e ∙ ap (λ (fs : List Frame). fs ++ frames.End ∷ []) are in
    let same : m ≡ frames.UnsizedEnvelope = cc in
    let rest : more ++ frame ∷ after
    ≡ (map frames.Chunk sizes ++ frames.Chunk 0 ∷ []) ++ frames.End ∷ [] = cc in
    inr (
      sizes,
      some,
      ap (λ (f : Frame). f ∷ more) same
          ∙ ap (λ (fs : List Frame). frames.UnsizedEnvelope ∷ fs)
          (behind_chunks sizes more after frame frames.End typed rest),
    )
