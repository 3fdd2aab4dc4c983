-- What a recording tells, frame by frame: what was heard, and then what is still to come, is all.
use Rattle.std.proofs.Common.{◌≡◌, ◌≤◌, inl, inr, ℕ, ◌==◌, Bool, cond, true, false, max, List, ◌∷◌, length, Option, None, Some, Result, Ok, Err, IfSome, refl, sym, ap, subst, ◌∙◌, arith}
use Rattle.std.specs.Prelude.{option_map, ⊤}
use Rattle.sacn_capture.specs.declared.frame_counts.FrameCounts.{FrameCounts}
use Rattle.sacn_capture.specs.declared.faults.CaptureFault.{CaptureFault}
use Rattle.sacn_capture.specs.declared.links.Passed.{Passed}
use Rattle.sacn_capture.specs.declared.stream.Record.{Record}
use Rattle.sacn_capture.specs.Check.{map_ok}
use Rattle.sacn_capture.specs.Counting.{count_frame, passed_by}
use Rattle.sacn_capture.specs.Frames.{Sent}
use Rattle.sacn_capture.specs.Recordings.{Shown, Told}
use Rattle.sacn_capture.specs.Streams.{Gives, GivesFirst, counted_with, shown_of}
use Rattle.sacn_monitor.specs.Books.{Book}
use Rattle.sacn_monitor.specs.Histories.{Call, Take, Tick, after_calls, moment_in_use, moment_of}
use Rattle.sacn_tell.specs.declared.follow.Progress.{Progress}
use Rattle.sacn_tell.specs.declared.follow.Timeline.{Timeline}
use Rattle.sacn_tell.specs.Following.{Follows}
use Rattle.sacn_tell.specs.KeptLists.{listed_by, listed_with}
use Rattle.sacn_tell.proofs.Counts.{counts_are_of_what_was_handed}
use Rattle.sacn_tell.specs.Story.{Heard, Hears, Kept, IsHeard, IsHeardTo, after_frame, after_frames, at_moment, call_of, elsewhere, heard_in}

abbrev heard_by : Progress → FrameCounts → List Call → Heard
heard_by progress frames calls = record { frames = frames; clock = progress.timeline; other_ports = progress.other_ports; calls = calls }

-- what was heard, and then what is still to come, is all that there is to hear
abbrev pub IsUpTo : ℕ → Option Told → Option Told → Progress → Kept → Type 0
IsUpTo port None after progress kept = ⊤
IsUpTo port (Some all) after progress kept =
    (rest : Told) × (after ≡ Some rest) × (all.fault ≡ rest.fault) × (calls : List Call)
    × (heard_in port all.frames ≡ after_frames port rest.frames (heard_by progress kept.frames calls)) × (progress.timeline.now ≡ moment_in_use calls) × Follows calls kept.book
    × (kept.listed ≡ listed_by calls)

-- what a call of a recording's reader gave, where it gave a frame
pub frame_given : (result : Result (Option Record) CaptureFault) (found : Option Record) (given : Record) (before after : Option Told) → result ≡ Ok found → found ≡ Some given
    → Gives (map_ok (λ x. option_map shown_of x) result) before after → Gives (Ok (Some (shown_of given))) before after
frame_given result found given before after is some gives =
    subst (λ (r : Result (Option Record) CaptureFault). Gives (map_ok (λ x. option_map shown_of x) r) before after) (is ∙ ap Ok some) gives

pub nothing_given : (result : Result (Option Record) CaptureFault) (found : Option Record) (before : Option Told) → result ≡ Ok found → found ≡ None
    → GivesFirst (map_ok (λ x. option_map shown_of x) result) before → GivesFirst (Ok None) before
nothing_given result found before is none gives = subst (λ (r : Result (Option Record) CaptureFault). GivesFirst (map_ok (λ x. option_map shown_of x) r) before) (is ∙ ap Ok none) gives

pub frame_counted : (result : Result (Option Record) CaptureFault) (found : Option Record) (given : Record) (before after : FrameCounts) → result ≡ Ok found → found ≡ Some given
    → after ≡ counted_with (map_ok (λ x. option_map shown_of x) result) before → after ≡ count_frame (passed_by (shown_of given).content) before
frame_counted result found given before after is some counts =
    subst (λ (r : Result (Option Record) CaptureFault). after ≡ counted_with (map_ok (λ x. option_map shown_of x) r) before) (is ∙ ap Ok some) counts

pub nothing_counted : (result : Result (Option Record) CaptureFault) (found : Option Record) (before after : FrameCounts) → result ≡ Ok found → found ≡ None
    → after ≡ counted_with (map_ok (λ x. option_map shown_of x) result) before → after ≡ before
nothing_counted result found before after is none counts =
    subst (λ (r : Result (Option Record) CaptureFault). after ≡ counted_with (map_ok (λ x. option_map shown_of x) r) before) (is ∙ ap Ok none) counts

pub counts_stay : (port : ℕ) (all : Option Told) (progress : Progress) (kept : Kept) (before after : FrameCounts) → after ≡ before
    → IfSome all (λ told. IsHeard port told progress (record kept { frames = before })) → IfSome all (λ told. IsHeard port told progress (record kept { frames = after }))
counts_stay port all progress kept before after same heard = subst (λ (c : FrameCounts). IfSome all (λ told. IsHeard port told progress (record kept { frames = c }))) (sym same) heard

-- a call has the moment that was handed in
call_moment_by : (b : Bool) (now : ℕ) (take : Call) → moment_of take ≡ now → moment_of (cond b take (Tick now)) ≡ now
call_moment_by true now take is = is
call_moment_by false now take is = refl

call_moment : (port now : ℕ) (content : Result Sent Passed) → moment_of (call_of port now content) ≡ now
call_moment port now (Ok d) = call_moment_by (d.destination_port == port) now _ refl
call_moment port now (Err passed) = refl

follows_on : (call : Call) (earlier : List Call) (old new : Book) → Follows earlier old → Hears (moment_in_use earlier) call old new → Follows (call ∷ earlier) new
follows_on (Take now sender octets) earlier old new follows hears = (old, follows, hears)
follows_on (Tick now) earlier old new follows hears = (old, follows, hears)

-- a clock never goes back
never_back : (moment : Option ℕ) (clock : Timeline) → clock.now ≤ (at_moment moment clock).now
never_back None clock = omega arith
never_back (Some moment) clock = omega arith

module _ (port : ℕ) (frame : Shown) (old new : Progress) (clock : new.timeline ≡ at_moment frame.moment old.timeline) (others : new.other_ports ≡ elsewhere port frame.content old.other_ports) where
  heard_on : (c d : FrameCounts) (calls : List Call) → d ≡ count_frame (passed_by frame.content) c
      → after_frame port frame (heard_by old c calls) ≡ heard_by new d (call_of port new.timeline.now frame.content ∷ calls)
  heard_on c d calls more =
      ap (λ (t : Timeline). record { frames = count_frame (passed_by frame.content) c; clock = t; other_ports = elsewhere port frame.content old.other_ports; calls = call_of port t.now frame.content ∷ calls }) (sym clock)
      ∙ ap (λ (n : ℕ). record { frames = count_frame (passed_by frame.content) c; clock = new.timeline; other_ports = n; calls = call_of port new.timeline.now frame.content ∷ calls }) (sym others)
      ∙ ap (λ (x : FrameCounts). heard_by new x (call_of port new.timeline.now frame.content ∷ calls)) (sym more)

  now_on : (calls : List Call) → old.timeline.now ≡ moment_in_use calls → new.timeline.now ≡ moment_in_use (call_of port new.timeline.now frame.content ∷ calls)
  now_on calls now =
      let later : new.timeline.now ≡ (at_moment frame.moment old.timeline).now = ap (λ (t : Timeline). t.now) clock in
      let moment : moment_of (call_of port new.timeline.now frame.content) ≡ new.timeline.now = call_moment port new.timeline.now frame.content in
      omega (arith, later, never_back frame.moment old.timeline, moment, now)

  pub moment_on : (t m : ℕ) → t ≡ old.timeline.now → m ≡ max t new.timeline.now → m ≡ new.timeline.now
  moment_on t m before is =
      let later : new.timeline.now ≡ (at_moment frame.moment old.timeline).now = ap (λ (t : Timeline). t.now) clock in
      omega (arith, later, never_back frame.moment old.timeline, before, is)

  -- a frame more was heard
  pub frame_heard : (all before after : Option Told) (t : ℕ) (k0 k1 : Kept) → IsUpTo port all before old k0 → Gives (Ok (Some frame)) before after → t ≡ old.timeline.now
      → Hears t (call_of port new.timeline.now frame.content) k0.book k1.book → k1.frames ≡ count_frame (passed_by frame.content) k0.frames
      → k1.listed ≡ listed_with (call_of port new.timeline.now frame.content) k0.listed → IsUpTo port all after new k1
  frame_heard None before after t k0 k1 upto gives moment hears more lists = tt
  frame_heard (Some all) before after t k0 k1 (left, left_is, fault, calls, heard, now, follows, listed) gives moment hears more lists =
      let came = subst (λ (o : Option Told). Gives (Ok (Some frame)) o after) left_is gives in (
        came.0,
        came.1,
        fault ∙ ap (λ (x : Told). x.fault) came.2,
        call_of port new.timeline.now frame.content ∷ calls,
        heard ∙ ap (λ (x : Told). after_frames port x.frames (heard_by old k0.frames calls)) came.2
            ∙ ap (λ (h : Heard). after_frames port came.0.frames h) (heard_on k0.frames k1.frames calls more),
        now_on calls now,
        follows_on (call_of port new.timeline.now frame.content) calls k0.book k1.book follows
            (subst (λ (m : ℕ). Hears m (call_of port new.timeline.now frame.content) k0.book k1.book) (moment ∙ now) hears),
        lists ∙ ap (listed_with (call_of port new.timeline.now frame.content)) listed,
      )

to_end : (port : ℕ) (told : Told) (new : Progress) (b : Kept) (stopped : Option CaptureFault) → stopped ≡ None → IsHeardTo None port told new b → IsHeardTo stopped port told new b
to_end port told new b stopped is h = subst (λ (o : Option CaptureFault). IsHeardTo o port told new b) (sym is) h

-- at the end all was heard
pub ended_heard : (port : ℕ) (all before : Option Told) (progress : Progress) (b : Kept) → IsUpTo port all before progress b → GivesFirst (Ok None) before → progress.stopped ≡ None
    → IfSome all (λ told. IsHeard port told progress b)
ended_heard port None before progress b upto gives is = tt
ended_heard port (Some all) before progress b (left, left_is, whole, calls, heard, now, follows, listed) gives is =
    let came = subst (λ (o : Option Told). Gives (Ok None) o gives.0) left_is gives.1 in
    let said : heard_in port all.frames ≡ heard_by progress b.frames calls = heard ∙ ap (λ (x : Told). after_frames port x.frames (heard_by progress b.frames calls)) came.0 in
    let counts = counts_are_of_what_was_handed calls b.book follows in
    to_end port all progress b progress.stopped is (
      whole ∙ ap (λ (x : Told). x.fault) came.0,
      record {
        frames = ap (λ (h : Heard). h.frames) (sym said);
        clock = ap (λ (h : Heard). h.clock) (sym said);
        other_ports = ap (λ (h : Heard). h.other_ports) (sym said);
        tally = counts.0 ∙ ap (λ (h : Heard). (after_calls h.calls).tally) (sym said);
        streams = counts.1 ∙ ap (λ (h : Heard). length (after_calls h.calls).streams) (sym said);
        listed = listed ∙ ap (λ (h : Heard). listed_by h.calls) (sym said);
      },
    )

-- what is wrong with a recording
wrong : (fault : CaptureFault) (port : ℕ) (told : Told) (new : Progress) (b : Kept) (stopped : Option CaptureFault) → stopped ≡ Some fault
    → IsHeardTo (Some fault) port told new b → IsHeardTo stopped port told new b
wrong fault port told new b stopped is h = subst (λ (o : Option CaptureFault). IsHeardTo o port told new b) (sym is) h

pub stopped_heard : (port : ℕ) (all before after : Option Told) (fault : CaptureFault) (old new : Progress) (b0 b1 : Kept)
    → IsUpTo port all before old b0 → Gives (Err fault) before after → new.stopped ≡ Some fault → IfSome all (λ told. IsHeard port told new b1)
stopped_heard port None before after fault old new b0 b1 upto gives is = tt
stopped_heard port (Some all) before after fault old new b0 b1 (left, left_is, whole, calls, heard, now, follows, listed) gives is =
    let came = subst (λ (o : Option Told). Gives (Err fault) o after) left_is gives in
    wrong fault port all new b1 new.stopped is (elim came.1 [
      | inl outside ↦ inl outside
      | inr said ↦ inr (whole ∙ ap (λ (x : Told). x.fault) said)
    ])
