-- What values ask for, computed.
use Rattle.std.proofs.Common.{◌≡◌, ℕ, ◌^◌, ◌<◌, ◌≤◌, Bool, true, false, ◌&&◌, length, if◌then◌else◌}
use Rattle.std.proofs.Common.{nat_le, Some, None, decimal, Option, option_map, option_and_then, sym}
use Rattle.std.proofs.Common.{refl, ap, ◌∙◌, subst, inl, inr, arith, le-leb, leb-true}
use Rattle.std.proofs.lemmas.{Bool.cases_Bool, Option.option_and_then_some}
use Rattle.clap.proofs.WalkLemmas.{both}
use Rattle.nbfx_values.specs.declared.session.{Encoding.Encoding, Kind.Kind, Mode.Mode}
use Rattle.nbfx_values.specs.{declared.session.Mode.TheVariants.Duplex, Session.encoding_kind}
use Rattle.nbfx_values.specs.Limits.{IsGood, Limits, limits, usual_limits}
use Rattle.command_words.specs.declared.{action.Action.Action, task.Origin.Origin}
use Rattle.command_words.specs.declared.action.Action.TheVariants.{Build, Call, Check, Dump, Gen}
use Rattle.command_words.specs.declared.action.Action.TheVariants.{Pool, Rehearse, Relay, Replay, Serve}
use Rattle.command_words.specs.declared.option_name.OptionName.TheVariants.{Connect, Connections}
use Rattle.command_words.specs.declared.option_name.OptionName.TheVariants.{Sessions}
use Rattle.command_words.specs.declared.option_name.OptionName.TheVariants.{Content, Count, Depth}
use Rattle.command_words.specs.declared.option_name.OptionName.TheVariants.{Dictionary}
use Rattle.command_words.specs.declared.option_name.OptionName.TheVariants.{Encoding as EncodingOption}
use Rattle.command_words.specs.declared.option_name.OptionName.TheVariants.{Id, Listen, Static, Via, Window}
use Rattle.command_words.specs.declared.option_name.OptionName.TheVariants.{Mode as ModeOption}
use Rattle.command_words.specs.declared.option_name.OptionName.TheVariants.{Payload, Replies}
use Rattle.command_words.specs.declared.option_name.OptionName.TheVariants.{Second, Seed, Session}
use Rattle.command_words.specs.declared.task.Detail.{Detail, TheVariants.Summary, TheVariants.Whole}
use Rattle.command_words.specs.declared.task.Origin.TheVariants.{Initiator, Receiver}
use Rattle.command_words.{specs.Options.Text, specs.Values.is_blank, specs.Values.IsNumber}
use Rattle.command_words.proofs.ValueFacts.{read_or-sound}
use Rattle.command_words.specs.Requests.{AreGood, AreLimits, AreTwo, Asked, AskedOfSessions, AskFor}
use Rattle.command_words.specs.Requests.{AskForSessions, AskForTask, AskToBuild, content_beside}
use Rattle.command_words.specs.Requests.{AskToPool, AskToRelay, most_at_once, most_in_turn, relaying_in}
use Rattle.command_words.specs.Requests.{AskToCall, AskToGenerate, AskToRehearse, AskToReport, AskToServe}
use Rattle.command_words.specs.Requests.{IsOpening, IsOrigin, most_connections, most_documents, most_window}
use Rattle.command_words.specs.Requests.{forward_values, of_sessions, QuotaValues, rehearsal, reply_values}
use Rattle.command_words.specs.Requests.{serving_in, TwoLimits, usual_window, Values}
use Rattle.command_words.specs.Tasks.{build, call, generate, Opening, pool, Rehearsal, relay, replay}
use Rattle.command_words.specs.Tasks.{report, serve, Task}
use Rattle.command_words.specs.Values.{usual_encoding}
use Rattle.command_words.proofs.ValueFacts.{encoding_in, encodings, mode_in, modes, number_in}
use Rattle.command_words.proofs.ValueFacts.{number_in-small, numbers, read_or, read_or-complete}

-- ---- limits

abbrev is_good : Limits → Bool
is_good l = nat_le 4096 l.payload && (nat_le l.payload 16777216 && (nat_le 4 l.depth
    && (nat_le l.depth 1024 && (nat_le l.dictionary l.payload && (nat_le l.dictionary 1048576
    && (nat_le l.payload l.content && (nat_le l.content 67108864 && (nat_le 16 l.via
    && (nat_le l.via 2048 && (nat_le 1 l.session
    && nat_le l.session 281474976710656))))))))))

good-passes : (l : Limits) → IsGood l → is_good l ≡ true
good-passes l g =
    rw (
      le-leb 4096 l.payload g.payload_least,
      le-leb l.payload 16777216 g.payload_most,
      le-leb 4 l.depth g.depth_least,
      le-leb l.depth 1024 g.depth_most,
      le-leb l.dictionary l.payload g.dictionary_most,
      le-leb l.dictionary 1048576 g.dictionary_greatest,
      le-leb l.payload l.content g.content_least,
      le-leb l.content 67108864 g.content_most,
      le-leb 16 l.via g.via_least,
      le-leb l.via 2048 g.via_most,
      le-leb 1 l.session g.session_least,
      le-leb l.session 281474976710656 g.session_most,
    ) refl

passes-good : (l : Limits) → is_good l ≡ true → IsGood l
passes-good l e =
    let a = both _ _ e in
    let b = both _ _ a.1 in
    let c = both _ _ b.1 in
    let d = both _ _ c.1 in
    let f = both _ _ d.1 in
    let f2 = both _ _ f.1 in
    let g = both _ _ f2.1 in
    let h = both _ _ g.1 in
    let i = both _ _ h.1 in
    let j = both _ _ i.1 in
    let k = both _ _ j.1 in
    record {
      payload_least = leb-true _ _ a.0;
      payload_most = leb-true _ _ b.0;
      depth_least = leb-true _ _ c.0;
      depth_most = leb-true _ _ d.0;
      dictionary_most = leb-true _ _ f.0;
      dictionary_greatest = leb-true _ _ f2.0;
      content_least = leb-true _ _ g.0;
      content_most = leb-true _ _ h.0;
      via_least = leb-true _ _ i.0;
      via_most = leb-true _ _ j.0;
      session_least = leb-true _ _ k.0;
      session_most = leb-true _ _ k.1;
    }

abbrev good_alone : Limits → Option Limits
good_alone l = if is_good l then Some l else None

good-alone : (read l : Limits) → good_alone read ≡ Some l → IsGood read × (read ≡ l)
good-alone read l e =
    elim (cases_Bool (is_good read)) [
      | inl passes ↦ (passes-good read passes, cc (rw passes at e))
      | inr fails ↦ cc (rw fails at e)
    ]

abbrev number_or : ℕ → Option Text → Option ℕ
number_or usual value = read_or number_in usual value

abbrev limits_in : QuotaValues → Limits → Option Limits
limits_in given usual =
    option_and_then (λ payload.
    option_and_then (λ depth.
    option_and_then (λ dictionary.
    option_and_then (λ content.
    option_and_then (λ session.
    good_alone (limits payload depth dictionary content usual.via session))
    (number_or usual.session given.session))
    (number_or (content_beside given.payload usual.content payload) given.content))
    (number_or usual.dictionary given.dictionary))
    (number_or usual.depth given.depth))
    (number_or usual.payload given.payload)

limits-sound : (given : QuotaValues) (usual l : Limits) → limits_in given usual ≡ Some l
    → AreLimits given usual l × IsGood l
limits-sound given usual l e =
    option_and_then_some _ _ l e (λ payload is_payload e.
    option_and_then_some _ _ l e (λ depth is_depth e.
    option_and_then_some _ _ l e (λ dictionary is_dictionary e.
    option_and_then_some _ _ l e (λ content is_content e.
    option_and_then_some _ _ l e (λ session is_session e.
    let read = limits payload depth dictionary content usual.via session in
    let good = good-alone read l e in
    let are : AreLimits given usual read = record {
      payload = read_or-sound numbers usual.payload given.payload payload is_payload;
      depth = read_or-sound numbers usual.depth given.depth depth is_depth;
      dictionary = read_or-sound numbers usual.dictionary given.dictionary dictionary is_dictionary;
      content = read_or-sound numbers (content_beside given.payload usual.content payload)
          given.content content is_content;
      via = refl;
      session = read_or-sound numbers usual.session given.session session is_session;
    } in
    subst (λ l. AreLimits given usual l × IsGood l) good.1 (are, good.0))))))

limits-complete : (given : QuotaValues) (usual l : Limits) → AreLimits given usual l → IsGood l
    → limits_in given usual ≡ Some l
limits-complete given usual l are good =
    let g = good in
    let payload = read_or-complete numbers usual.payload given.payload l.payload
    (omega (arith, g.payload_most)) are.payload in
    let depth = read_or-complete numbers usual.depth given.depth l.depth
    (omega (arith, g.depth_most)) are.depth in
    let dictionary = read_or-complete numbers usual.dictionary given.dictionary
    l.dictionary (omega (arith, g.dictionary_most, g.payload_most)) are.dictionary in
    let content = read_or-complete numbers (content_beside given.payload usual.content l.payload)
    given.content l.content (omega (arith, g.content_most)) are.content in
    let session = read_or-complete numbers usual.session given.session l.session
    (omega (arith, g.session_most)) are.session in
    rw (payload, depth, dictionary, content, session)
    (ap (λ via. good_alone (limits l.payload l.depth l.dictionary l.content via l.session))
    (sym are.via) ∙ rw (good-passes l good) refl)

pub limits-one : (given : QuotaValues) (usual one other : Limits) → AreLimits given usual one
    → IsGood one → AreLimits given usual other → IsGood other → one ≡ other
limits-one given usual one other is good is_other good_other =
    let same : Some one ≡ Some other = sym (limits-complete given usual one is good)
    ∙ limits-complete given usual other is_other good_other in
    cc same

abbrev both_limits : Limits → Limits → TwoLimits
both_limits forward back = record { forward = forward; back = back }

abbrev two_in : Values → Option TwoLimits
two_in value =
    option_and_then (λ forward. option_map (both_limits forward)
    (limits_in (reply_values value) forward))
    (limits_in (forward_values value) usual_limits)

-- ---- tasks

abbrev origin_in : Option Text → Kind → Option Origin
origin_in None kind = Some Initiator
origin_in (Some text) kind = option_map (λ mode. Receiver mode kind) (mode_in text)

abbrev report_in : Detail → Values → Option Task
report_in detail value =
    option_and_then (λ encoding. option_map (report detail)
    (origin_in (value Replies) (encoding_kind encoding)))
    (read_or encoding_in usual_encoding (value EncodingOption))

abbrev short_alone : Text → Option Text
short_alone via = if nat_le (length via) usual_limits.via then Some via else None

abbrev opening : Text → Mode → Encoding → Opening
opening via mode encoding = record { via = via; mode = mode; encoding = encoding }

abbrev opening_in : Values → Option Opening
opening_in value =
    option_and_then (λ via.
    option_and_then (λ mode.
    option_map (opening via mode) (read_or encoding_in usual_encoding (value EncodingOption)))
    (read_or mode_in Duplex (value ModeOption)))
    (option_and_then short_alone (value Via))

abbrev within_alone : ℕ → ℕ → ℕ → Option ℕ
within_alone least most n = if nat_le least n && nat_le n most then Some n else None

abbrev serve_in : Values → Option Task
serve_in value =
    option_and_then (λ listen.
    option_map (λ connections. serve listen connections (serving_in value))
    (option_and_then (within_alone 1 most_connections)
    (number_or most_connections (value Connections))))
    (value Listen)

abbrev call_in : Values → Option Task
call_in value =
    option_and_then (λ connect.
    option_map (λ opens. call connect opens (value Second)) (opening_in value))
    (value Connect)

-- the number of a count that is at least 1
abbrev counted : ℕ → Option Text → Option ℕ
counted most value = option_and_then (within_alone 1 most) (number_or most value)

abbrev relay_in : Values → Option Task
relay_in value =
    option_and_then (λ listen.
    option_and_then (λ connect.
    option_and_then (λ via.
    option_map (λ n. relay (relaying_in value listen connect via n))
    (counted most_connections (value Connections)))
    (option_and_then short_alone (value Via)))
    (value Connect))
    (value Listen)

abbrev pool_in : Values → Option Task
pool_in value =
    option_and_then (λ listen.
    option_and_then (λ connections.
    option_map (λ sessions. pool listen connections sessions (serving_in value))
    (counted most_in_turn (value Sessions)))
    (counted most_at_once (value Connections)))
    (value Listen)

abbrev generate_in : Values → Option Task
generate_in value =
    option_and_then (λ seed. option_map (generate seed)
    (option_and_then (within_alone 0 most_documents)
    (option_and_then number_in (value Count))))
    (option_and_then number_in (value Seed))

abbrev task_in : Action → Values → Option Task
task_in Check value = report_in Summary value
task_in Dump value = report_in Whole value
task_in Build value = option_map build (opening_in value)
task_in Replay value = Some (replay (serving_in value))
task_in Serve value = serve_in value
task_in Call value = call_in value
task_in Relay value = relay_in value
task_in Pool value = pool_in value
task_in Gen value = generate_in value
task_in Rehearse value = None

-- what an option holds is of a value that there is
map-some : {A B : Type 0} (f : A → B) (o : Option A) (y : B) → option_map f o ≡ Some y
    → (x : A) × (o ≡ Some x) × (f x ≡ y)
map-some f None y e = cc e
map-some f (Some x) y e = (x, refl, cc e)

two-sound : (value : Values) (two : TwoLimits) → two_in value ≡ Some two
    → AreTwo value two × AreGood two
two-sound value two e =
    option_and_then_some _ _ two e (λ forward is_forward e.
    let back =
    map-some (both_limits forward) (limits_in (reply_values value) forward) two e in
    let first = limits-sound (forward_values value) usual_limits forward is_forward in
    let second = limits-sound (reply_values value) forward back.0 back.1 in
    let are : AreTwo value (both_limits forward back.0) × AreGood (both_limits forward back.0) = (
      record { forward = first.0; back = second.0 },
      record { forward = first.1; back = second.1 },
    ) in
    subst (λ two. AreTwo value two × AreGood two) back.2 are)

two-complete : (value : Values) (two : TwoLimits) → AreTwo value two → AreGood two
    → two_in value ≡ Some two
two-complete value two are good =
    rw (
      limits-complete (forward_values value) usual_limits two.forward are.forward good.forward,
      limits-complete (reply_values value) two.forward two.back are.back good.back,
    ) refl

origin-sound : (value : Option Text) (kind : Kind) (origin : Origin)
    → origin_in value kind ≡ Some origin → IsOrigin value kind origin
origin-sound None kind origin e = let is : Initiator ≡ origin = cc e in sym is
origin-sound (Some text) kind origin e =
    let mode = map-some (λ mode. Receiver mode kind) (mode_in text) origin e in
    (mode.0, modes.sound text mode.0 mode.1, sym mode.2)

origin-complete : (value : Option Text) (kind : Kind) (origin : Origin)
    → IsOrigin value kind origin → origin_in value kind ≡ Some origin
origin-complete None kind origin is = ap Some (sym is)
origin-complete (Some text) kind origin (mode, named, is) =
    ap (λ t. option_map (λ m. Receiver m kind) (mode_in t)) named
    ∙ ap (option_map (λ m. Receiver m kind)) (modes.complete mode tt) ∙ ap Some (sym is)

report-sound : (detail : Detail) (value : Values) (task : Task) → report_in detail value ≡ Some task
    → AskToReport detail value task
report-sound detail value task e =
    option_and_then_some _ _ task e (λ encoding is_encoding e.
    let kind = encoding_kind encoding in
    let origin = map-some (report detail) (origin_in (value Replies) kind) task e in
    record {
      origin = origin.0;
      encoding = encoding;
      encoded =
          read_or-sound encodings usual_encoding (value EncodingOption) encoding is_encoding;
      replies = origin-sound (value Replies) kind origin.0 origin.1;
      is = sym origin.2;
    })

report-complete : (detail : Detail) (value : Values) (task : Task) → AskToReport detail value task
    → report_in detail value ≡ Some task
report-complete detail value task asks =
    let encoding = read_or-complete encodings usual_encoding (value EncodingOption) asks.encoding tt
    asks.encoded in
    let origin =
    origin-complete (value Replies) (encoding_kind asks.encoding) asks.origin asks.replies in
    rw (encoding, origin) (ap Some (sym asks.is))

short-alone : (text via : Text) → short_alone text ≡ Some via
    → (text ≡ via) × (length via ≤ usual_limits.via)
short-alone text via e =
    elim (cases_Bool (nat_le (length text) usual_limits.via)) [
      | inl short ↦
          let is : text ≡ via = cc (rw short at e) in
          (is, subst (λ t. length t ≤ usual_limits.via) is (leb-true _ _ short))
      | inr long ↦ cc (rw long at e)
    ]

opening-sound : (value : Values) (opens : Opening) → opening_in value ≡ Some opens
    → IsOpening value opens
opening-sound value opens e =
    option_and_then_some _ _ opens e (λ via is_via e.
    option_and_then_some _ _ opens e (λ mode is_mode e.
    option_and_then_some _ _ via is_via (λ text is_text is_short.
    let short = short-alone text via is_short in
    let read = read_or encoding_in usual_encoding (value EncodingOption) in
    let encoding = map-some (opening via mode) read opens e in
    let is : IsOpening value (opening via mode encoding.0) = record {
      via = is_text ∙ ap Some short.0;
      short = short.1;
      mode = read_or-sound modes Duplex (value ModeOption) mode is_mode;
      encoded =
          read_or-sound encodings usual_encoding (value EncodingOption) encoding.0 encoding.1;
    } in
    subst (IsOpening value) encoding.2 is)))

opening-complete : (value : Values) (opens : Opening) → IsOpening value opens
    → opening_in value ≡ Some opens
opening-complete value opens is =
    let mode = read_or-complete modes Duplex (value ModeOption) opens.mode tt is.mode in
    let encoding = read_or-complete encodings usual_encoding (value EncodingOption) opens.encoding tt
    is.encoded in
    rw (is.via, le-leb (length opens.via) usual_limits.via is.short, mode, encoding) refl

build-sound : (value : Values) (task : Task) → option_map build (opening_in value) ≡ Some task
    → AskToBuild value task
build-sound value task e =
    let opens = map-some build (opening_in value) task e in
    record {
      opening = opens.0;
      opens = opening-sound value opens.0 opens.1;
      is = sym opens.2;
    }

build-complete : (value : Values) (task : Task) → AskToBuild value task
    → option_map build (opening_in value) ≡ Some task
build-complete value task asks =
    ap (option_map build) (opening-complete value asks.opening asks.opens) ∙ ap Some (sym asks.is)

within-alone : (least most m n : ℕ) → within_alone least most m ≡ Some n
    → (m ≡ n) × (least ≤ n) × (n ≤ most)
within-alone least most m n e =
    elim (cases_Bool (nat_le least m && nat_le m most)) [
      | inl within ↦
          let is : m ≡ n = cc (rw within at e) in
          let parts = both (nat_le least m) (nat_le m most) within in (
            is,
            subst (λ k. least ≤ k) is (leb-true least m parts.0),
            subst (λ k. k ≤ most) is (leb-true m most parts.1),
          )
      | inr outside ↦ cc (rw outside at e)
    ]

within-passes : (least most n : ℕ) → least ≤ n → n ≤ most → within_alone least most n ≡ Some n
within-passes least most n low high = rw (le-leb least n low, le-leb n most high) refl

serve-sound : (value : Values) (task : Task) → serve_in value ≡ Some task → AskToServe value task
serve-sound value task e =
    option_and_then_some _ _ task e (λ listen is_listen e.
    let made = map-some (λ n. serve listen n (serving_in value)) _ task e in
    option_and_then_some _ _ made.0 made.1 (λ m is_m e.
    let n = made.0 in
    let within = within-alone 1 most_connections m n e in
    record {
      listen = listen;
      connections = n;
      place = is_listen;
      number = read_or-sound numbers most_connections (value Connections) n
          (is_m ∙ ap Some within.0);
      least = within.1;
      most = within.2;
      is = sym made.2;
    }))

serve-complete : (value : Values) (task : Task) → AskToServe value task
    → serve_in value ≡ Some task
serve-complete value task asks =
    let n = asks.connections in
    let number = read_or-complete numbers most_connections (value Connections) n
    (omega (arith, asks.most)) asks.number in
    rw (asks.place, number, within-passes 1 most_connections n asks.least asks.most)
    (ap Some (sym asks.is))

call-sound : (value : Values) (task : Task) → call_in value ≡ Some task → AskToCall value task
call-sound value task e =
    option_and_then_some _ _ task e (λ connect is_connect e.
    let made = map-some (λ opens. call connect opens (value Second)) (opening_in value) task e in
    record {
      connect = connect;
      opening = made.0;
      place = is_connect;
      opens = opening-sound value made.0 made.1;
      is = sym made.2;
    })

call-complete : (value : Values) (task : Task) → AskToCall value task → call_in value ≡ Some task
call-complete value task asks =
    rw (asks.place, opening-complete value asks.opening asks.opens) (ap Some (sym asks.is))

-- a count that is given, or the most
counted-is : (most : ℕ) (value : Option Text) (n : ℕ) → counted most value ≡ Some n
    → IsNumber value most n × (1 ≤ n) × (n ≤ most)
counted-is most value n e = option_and_then_some _ _ n e (λ m is_m e.
    let within = within-alone 1 most m n e in (
      read_or-sound numbers most value n (is_m ∙ ap Some within.0),
      within.1,
      within.2,
    ))

is-counted : (most : ℕ) → most < 2 ^ 64 → (value : Option Text) (n : ℕ) → IsNumber value most n
    → 1 ≤ n → n ≤ most → counted most value ≡ Some n
is-counted most small value n is least great =
    rw (read_or-complete numbers most value n (omega (arith, small, great)) is)
    (within-passes 1 most n least great)

relay-sound : (value : Values) (task : Task) → relay_in value ≡ Some task → AskToRelay value task
relay-sound value task e =
    option_and_then_some _ _ task e (λ listen is_listen e.
    option_and_then_some _ _ task e (λ connect is_connect e.
    option_and_then_some _ _ task e (λ via is_via e.
    option_and_then_some _ _ via is_via (λ text is_text is_short.
    let short = short-alone text via is_short in
    let made = map-some (λ n. relay (relaying_in value listen connect via n)) _ task e in
    let number = counted-is most_connections (value Connections) made.0 made.1 in
    record {
      listen = listen;
      connect = connect;
      via = via;
      connections = made.0;
      place = is_listen;
      server = is_connect;
      opened = is_text ∙ ap Some short.0;
      short = short.1;
      number = number.0;
      least = number.1;
      most = number.2;
      is = sym made.2;
    }))))

relay-complete : (value : Values) (task : Task) → AskToRelay value task
    → relay_in value ≡ Some task
relay-complete value task asks =
    let number = is-counted most_connections (omega arith) (value Connections) asks.connections
    asks.number asks.least asks.most in
    rw (
      asks.place,
      asks.server,
      asks.opened,
      le-leb (length asks.via) usual_limits.via asks.short,
      number,
    ) (ap Some (sym asks.is))

pool-sound : (value : Values) (task : Task) → pool_in value ≡ Some task → AskToPool value task
pool-sound value task e =
    option_and_then_some _ _ task e (λ listen is_listen e.
    option_and_then_some _ _ task e (λ connections is_connections e.
    let made = map-some (λ n. pool listen connections n (serving_in value)) _ task e in
    let number = counted-is most_at_once (value Connections) connections is_connections in
    let turns = counted-is most_in_turn (value Sessions) made.0 made.1 in
    record {
      listen = listen;
      connections = connections;
      sessions = made.0;
      place = is_listen;
      number = number.0;
      least = number.1;
      most = number.2;
      turns = turns.0;
      least_turns = turns.1;
      most_turns = turns.2;
      is = sym made.2;
    }))

pool-complete : (value : Values) (task : Task) → AskToPool value task → pool_in value ≡ Some task
pool-complete value task asks =
    let number = is-counted most_at_once (omega arith) (value Connections) asks.connections
    asks.number asks.least asks.most in
    let turns = is-counted most_in_turn (omega arith) (value Sessions) asks.sessions asks.turns
    asks.least_turns asks.most_turns in
    rw (asks.place, number, turns) (ap Some (sym asks.is))

-- a number that has to be there
number-given : (value : Option Text) (n : ℕ) → option_and_then number_in value ≡ Some n
    → (value ≡ Some (decimal n)) × (n < 2 ^ 64)
number-given None n e = cc e
number-given (Some text) n e = (ap Some (numbers.sound text n e), number_in-small text n e)

given-number : (value : Option Text) (n : ℕ) → value ≡ Some (decimal n) → n < 2 ^ 64
    → option_and_then number_in value ≡ Some n
given-number value n is small = ap (option_and_then number_in) is ∙ numbers.complete n small

generate-sound : (value : Values) (task : Task) → generate_in value ≡ Some task
    → AskToGenerate value task
generate-sound value task e =
    option_and_then_some _ _ task e (λ seed is_seed e.
    let made = map-some (generate seed) _ task e in
    option_and_then_some _ _ made.0 made.1 (λ m is_m e.
    let within = within-alone 0 most_documents m made.0 e in
    let seeded = number-given (value Seed) seed is_seed in
    record {
      seed = seed;
      count = made.0;
      seeded = seeded.0;
      small = seeded.1;
      counted = (number-given (value Count) made.0 (is_m ∙ ap Some within.0)).0;
      most = within.2;
      is = sym made.2;
    }))

generate-complete : (value : Values) (task : Task) → AskToGenerate value task
    → generate_in value ≡ Some task
generate-complete value task asks =
    let seed = given-number (value Seed) asks.seed asks.seeded asks.small in
    let count = given-number (value Count) asks.count asks.counted (omega (arith, asks.most)) in
    rw (seed, count, within-passes 0 most_documents asks.count (omega arith) asks.most)
    (ap Some (sym asks.is))

task-sound : (action : Action) (value : Values) (task : Task) → task_in action value ≡ Some task
    → AskForTask action value task
task-sound Check value task e = report-sound Summary value task e
task-sound Dump value task e = report-sound Whole value task e
task-sound Build value task e = build-sound value task e
task-sound Replay value task e =
    let is : replay (serving_in value) ≡ task = cc e in
    sym is
task-sound Serve value task e = serve-sound value task e
task-sound Call value task e = call-sound value task e
task-sound Relay value task e = relay-sound value task e
task-sound Pool value task e = pool-sound value task e
task-sound Gen value task e = generate-sound value task e
task-sound Rehearse value task e = cc e

task-complete : (action : Action) (value : Values) (task : Task) → AskForTask action value task
    → task_in action value ≡ Some task
task-complete Check value task asks = report-complete Summary value task asks
task-complete Dump value task asks = report-complete Whole value task asks
task-complete Build value task asks = build-complete value task asks
task-complete Replay value task asks = ap Some (sym asks)
task-complete Serve value task asks = serve-complete value task asks
task-complete Call value task asks = call-complete value task asks
task-complete Relay value task asks = relay-complete value task asks
task-complete Pool value task asks = pool-complete value task asks
task-complete Gen value task asks = generate-complete value task asks
task-complete Rehearse value task asks = absurd asks

-- ---- the history of a sequence

abbrev named_alone : Text → Option Text
named_alone id = if is_blank id then None else Some id

abbrev sequence : Text → ℕ → Rehearsal
sequence id window = record { id = id; window = window }

abbrev rehearsal_in : Values → Option Rehearsal
rehearsal_in value =
    option_and_then (λ id. option_map (sequence id)
    (option_and_then (within_alone 1 most_window) (number_or usual_window (value Window))))
    (option_and_then named_alone (value Id))

named-alone : (text id : Text) → named_alone text ≡ Some id → (text ≡ id) × (is_blank id ≡ false)
named-alone text id e =
    elim (cases_Bool (is_blank text)) [
      | inl blank ↦ cc (rw blank at e)
      | inr named ↦
          let is : text ≡ id = cc (rw named at e) in
          (is, subst (λ t. is_blank t ≡ false) is named)
    ]

rehearsal-sound : (value : Values) (asked : Rehearsal) → rehearsal_in value ≡ Some asked
    → AskToRehearse value asked
rehearsal-sound value asked e =
    option_and_then_some _ _ asked e (λ id is_id e.
    let made = map-some (sequence id) _ asked e in
    option_and_then_some _ _ made.0 made.1 (λ m is_m e.
    option_and_then_some _ _ id is_id (λ text is_text is_named.
    let named = named-alone text id is_named in
    let within = within-alone 1 most_window m made.0 e in
    let is : AskToRehearse value (sequence id made.0) = record {
      identified = is_text ∙ ap Some named.0;
      named = named.1;
      number = read_or-sound numbers usual_window (value Window) made.0
          (is_m ∙ ap Some within.0);
      least = within.1;
      most = within.2;
    } in
    subst (AskToRehearse value) made.2 is)))

rehearsal-complete : (value : Values) (asked : Rehearsal) → AskToRehearse value asked
    → rehearsal_in value ≡ Some asked
rehearsal-complete value asked asks =
    let n = asked.window in
    let number = read_or-complete numbers usual_window (value Window) n
    (omega (arith, asks.most)) asks.number in
    rw (asks.identified, asks.named, number, within-passes 1 most_window n asks.least asks.most)
    refl

-- ---- requests

abbrev asked : Text → TwoLimits → Task → AskedOfSessions
asked statics limits task = record { statics = statics; limits = limits; task = task }

abbrev session_in : Action → Values → Option AskedOfSessions
session_in action value =
    option_and_then (λ statics.
    option_and_then (λ limits. option_map (asked statics limits) (task_in action value))
    (two_in value))
    (value Static)

session-sound : (action : Action) (value : Values) (asks : AskedOfSessions)
    → session_in action value ≡ Some asks → AskForSessions action value asks
session-sound action value asks e =
    option_and_then_some _ _ asks e (λ statics is_statics e.
    option_and_then_some _ _ asks e (λ limits is_limits e.
    let task = map-some (asked statics limits) (task_in action value) asks e in
    let set = two-sound value limits is_limits in
    let asks_for : AskForSessions action value (asked statics limits task.0) = record {
      named = is_statics;
      numbers = set.0;
      good = set.1;
      task = task-sound action value task.0 task.1;
    } in
    subst (AskForSessions action value) task.2 asks_for))

session-complete : (action : Action) (value : Values) (asks : AskedOfSessions)
    → AskForSessions action value asks → session_in action value ≡ Some asks
session-complete action value asks is =
    rw (
      is.named,
      two-complete value asks.limits is.numbers is.good,
      task-complete action value asks.task is.task,
    ) refl

abbrev pub asked_in : Action → Values → Option Asked
asked_in Rehearse value = option_map rehearsal (rehearsal_in value)
asked_in action value = option_map of_sessions (session_in action value)

some_session : (action : Action) (value : Values) (asks : Asked)
    → option_map of_sessions (session_in action value) ≡ Some asks → AskFor action value asks
some_session action value asks e =
    let is = map-some of_sessions (session_in action value) asks e in
    subst (AskFor action value) is.2 (session-sound action value is.0 is.1)

pub asked-sound : (action : Action) (value : Values) (asks : Asked)
    → asked_in action value ≡ Some asks → AskFor action value asks
asked-sound Rehearse value asks e =
    let is = map-some rehearsal (rehearsal_in value) asks e in
    subst (AskFor Rehearse value) is.2 (refl, rehearsal-sound value is.0 is.1)
asked-sound action value asks e = some_session action value asks e

-- the command of a request on sessions isn't the one that plays a history
no_session : (value : Values) (asks : AskedOfSessions) → AskForSessions Rehearse value asks → ⊥
no_session value asks is = is.task

some_history : (action : Action) (value : Values) (asks : Rehearsal) → action ≡ Rehearse
    → AskToRehearse value asks → asked_in action value ≡ Some (rehearsal asks)
some_history action value asks is asks_so =
    ap (λ a. asked_in a value) is ∙ ap (option_map rehearsal) (rehearsal-complete value asks asks_so)

pub asked-complete : (action : Action) (value : Values) (asks : Asked) → AskFor action value asks
    → asked_in action value ≡ Some asks
asked-complete action value (rehearsal asks) is = some_history action value asks is.0 is.1
asked-complete Rehearse value (of_sessions asks) is = absurd (no_session value asks is)
asked-complete action value (of_sessions asks) is =
    ap (option_map of_sessions) (session-complete action value asks is)
