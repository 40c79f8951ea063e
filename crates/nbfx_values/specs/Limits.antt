-- What a reading or writing end admits: the numbers, and which of them are good.
use Rattle.std.specs.Prelude.{ℕ, ◌≤◌, ◌^◌}

-- the numbers that quotas hold
pub record Limits : Type 0 where
  pub payload : ℕ
  pub depth : ℕ
  pub dictionary : ℕ
  pub content : ℕ
  pub via : ℕ
  pub session : ℕ

abbrev pub limits : (payload depth dictionary content via session : ℕ) → Limits
limits payload depth dictionary content via session = record {
  payload = payload;
  depth = depth;
  dictionary = dictionary;
  content = content;
  via = via;
  session = session;
}

-- the least and the greatest value of each
pub record IsGood (q : Limits) : Type 0 where
  pub payload_least : 4096 ≤ q.payload
  pub payload_most : q.payload ≤ 16777216
  pub depth_least : 4 ≤ q.depth
  pub depth_most : q.depth ≤ 1024
  pub dictionary_most : q.dictionary ≤ q.payload
  pub dictionary_greatest : q.dictionary ≤ 1048576
  pub content_least : q.payload ≤ q.content
  pub content_most : q.content ≤ 67108864
  pub via_least : 16 ≤ q.via
  pub via_most : q.via ≤ 2048
  pub session_least : 1 ≤ q.session
  pub session_most : q.session ≤ 2 ^ 48

-- the limits of a stack that nobody has set otherwise
abbrev pub usual_limits : Limits
usual_limits = record {
  payload = 65536;
  depth = 32;
  dictionary = 2048;
  content = 262144;
  via = 2048;
  session = 2 ^ 48;
}
