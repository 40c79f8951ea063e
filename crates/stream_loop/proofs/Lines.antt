-- What a reporter has put of events when one more comes, and at a pause.
use Rattle.std.proofs.Common.{◌≡◌, ℕ, List, [], ◌∷◌, ◌++◌, OnOk, IfErr, Some, None, Ok, Err}
use Rattle.std.proofs.Common.{Option, Result, sym, ap, ◌∙◌, subst, append_assoc, append-nil}
use Rattle.{std.specs.Prelude.⊤, io_edges.proofs.Putting.Puts-then}
use Rattle.io_edges.specs.declared.SinkFault.{SinkFault}
use Rattle.unit_streams.proofs.Telling.{told_append, told_one}
use Rattle.unit_streams.specs.Tellers.{state_behind, Teller, told_along}
use Rattle.stream_loop.specs.Report.{HasFailed, HasPut, WritesPaused}
use Rattle.stream_loop.specs.{Reported.Grows, Writing.IsWriting}
use Rattle.stream_loop.proofs.Grown.{all_written}
use Rattle.stream_loop.proofs.Writing.{grows_more, known_told, puts_grow}
use Rattle.stream_loop.proofs.Written.{begins, goes_on}
use Rattle.io_edges.specs.Views.{SinkView}
use Rattle.io_edges.specs.Puts.{Puts}

module _ {S E R : Type 0} (t : Teller S E R) (first : SinkView) where
  abbrev Put : List E → List E → S → SinkView → Type 0
  Put = HasPut t first

  abbrev Failed' : List E → List E → Option E → SinkFault → SinkView → Type 0
  Failed' = HasFailed t first

  abbrev Left : List E → SinkView → Type 0
  Left = WritesPaused t first

  -- more is written after that
  pub left_more : (paused : List E) (now new : SinkView) (bytes : List ℕ) (r : Result ⊤ SinkFault)
      → WritesPaused t first paused now
      → Puts now new bytes r
      → WritesPaused t first paused new
  left_more paused now new bytes r left puts =
      grows_more (λ w. w ++ first.held ++ told_along t t.start paused) first.written
      now.written new.written left (puts_grow r puts)

  -- before the first event, where nothing is held
  pub puts_first : first.held ≡ [] → (s : S) → s ≡ t.start → HasPut t first [] [] s first
  unfolding told_along
  puts_first none s is = record {
    writing = rw is (begins t first);
    left = known_told (λ w w'. Grows (w ++ first.held ++ []) w') first.written first.written
        (λ w e. (
          w,
          e,
          record {
            more = [];
            grown = sym (append-nil (w ++ first.held ++ []) ∙ append-nil (w ++ first.held)
                ∙ ap (λ l. w ++ l) none ∙ append-nil w);
          },
        ));
  }

  module _ (paused since : List E) (s : S) (now : SinkView)
      (h : HasPut t first paused since s now) where
    -- what is due for one event more
    module _ (e : E) (new : SinkView) where
      told_more : told_along t t.start (paused ++ since) ++ t.told s e
          ≡ told_along t t.start ((paused ++ since) ++ e ∷ [])
      told_more =
          ap (λ z. told_along t t.start (paused ++ since) ++ t.told z e) h.writing.state_is
          ∙ ap (λ l. told_along t t.start (paused ++ since) ++ l)
          (sym (told_one t e (state_behind t t.start (paused ++ since))))
          ∙ sym (told_append t (paused ++ since) (e ∷ []) t.start)

      pub puts_event : Puts now new (t.told s e) (Ok tt) → (s' : S) → s' ≡ t.next s e
          → HasPut t first paused (since ++ e ∷ []) s' new
      puts_event puts s' is = record {
        writing = subst (λ (l : List E). IsWriting t first l s' new)
            (append_assoc paused since (e ∷ []))
            (goes_on t first (paused ++ since) s now h.writing e s' new
            puts is);
        left = left_more paused now new (t.told s e) (Ok tt) h.left puts;
      }

      pub fails_event : (fault : SinkFault)
          → Puts now new (t.told s e) (Err fault)
          → HasFailed t first paused since (Some e) fault new
      fails_event fault puts = record {
        puts = subst (λ (l : List ℕ). Puts first new l (Err fault)) told_more
            (Puts-then (Err fault) h.writing.puts puts);
        left = left_more paused now new (t.told s e) (Err fault) h.left puts;
      }

    -- what is held is written
    pub puts_all : (new : SinkView) (r : Result ⊤ SinkFault) → Puts now new [] r → new.held ≡ []
        → OnOk r (HasPut t first (paused ++ since) [] s new)
    puts_all new (Ok u) puts none = record {
      writing = subst (λ (l : List E). IsWriting t first l s new)
          (sym (append-nil (paused ++ since)))
          (record {
            puts = all;
            state_is = h.writing.state_is;
          });
      left = known_told (λ w w'. Grows (w ++ first.held ++ told) w') first.written new.written
          (λ w e. let k = all_written first new told all none w e in (
            k.0,
            k.1,
            record { more = []; grown = k.2 ∙ sym (append-nil (w ++ first.held ++ told)) },
          ));
    } where
      told : List ℕ
      told = told_along t t.start (paused ++ since)

      all : Puts first new told (Ok tt)
      all = subst (λ (l : List ℕ). Puts first new l (Ok tt)) (append-nil told)
          (Puts-then (Ok tt) h.writing.puts puts)
    puts_all new (Err fault) puts none = tt

    pub fails_flush : (new : SinkView) (r : Result ⊤ SinkFault) → Puts now new [] r
        → IfErr r (λ fault. HasFailed t first paused since None fault
        new)
    fails_flush new (Ok u) puts = tt
    fails_flush new (Err fault) puts = record {
      puts = subst (λ (l : List ℕ). Puts first new l (Err fault))
          (append-nil (told_along t t.start (paused ++ since)))
          (Puts-then (Err fault) h.writing.puts puts);
      left = left_more paused now new [] (Err fault) h.left puts;
    }
