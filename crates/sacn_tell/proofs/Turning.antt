-- What a follower tells in its calls.
use Rattle.std.proofs.Common.{◌≡◌, ◌≤◌, arith, ℕ, List, [], ◌∷◌, ◌++◌, Option, None, Result, Ok, Err, OnOk, refl, sym, ap, subst, ◌∙◌}
use Rattle.sacn_packets.specs.declared.root.fault.PacketFault.{PacketFault}
use Rattle.sacn_packets.specs.declared.framing.packet.Packet.{Packet}
use Rattle.sacn_packets.specs.PacketReading.{reading_packet}
use Rattle.sacn_monitor.specs.declared.account.Endpoint.{Endpoint}
use Rattle.sacn_monitor.specs.declared.news.Noted.{Noted}
use Rattle.sacn_network.specs.declared.ledger.Ledger.{Ledger}
use Rattle.sacn_network.specs.Networks.{LeavesNone, note_of, take_told, taken, tick_told, ticked}
use Rattle.sacn_network.specs.Telling.{AreTold, Told}
use Rattle.sacn_tell.specs.declared.follower.Follower.{Follower}
use Rattle.sacn_tell.specs.declared.line_writer.LineWriter.{LineWriter}
use Rattle.sacn_tell.specs.declared.options.Form.{Form}
use Rattle.sacn_tell.specs.declared.teller.Teller.{Teller}
use Rattle.sacn_tell.specs.Causes.{cause_among}
use Rattle.sacn_tell.specs.Datagrams.{TellsTurn, datagram_told}
use Rattle.sacn_tell.specs.Following.{IsTaken, IsTicked}
use Rattle.sacn_tell.specs.LineWriting.{Writes, told_lines, told_text}
use Rattle.sacn_tell.specs.ListBooks.{ListBook, list_book, page_told}
use Rattle.sacn_tell.specs.Shows.{Staged, after_loss, after_turn, loss_shown, staged, turn_shown}
use Rattle.sacn_tell.specs.Silences.{AreDark, IsLit, IsNextDark, Scene, TellsDark, TellsSilence, after_dark, after_darks, dark_reason, dark_told, darks_told, scene_of}
use Rattle.sacn_tell.specs.Tellings.{Tells}
use Rattle.sacn_tell.proofs.Telling.{both, nothing}
use Rattle.sacn_tell.proofs.Ticking.{taken_on, ticked_on}

-- ---- the accounts

darks_ticked : (t : ℕ) (darks : List ℕ) (s : Scene) → AreDark t darks s → IsTicked t s.network.monitor (after_darks darks s).network.monitor
darks_ticked t [] s are = ([], tt, refl)
darks_ticked t (at ∷ earlier) s are = ticked_on t at s.network.monitor (after_darks earlier s).network are.1 (darks_ticked t earlier s are.0)

pub silence_ticked : {O : Type 0} (contents : O → Option (List ℕ)) (t : ℕ) (old new : Follower O) → TellsSilence contents t old new → IsTicked t old.network.monitor new.network.monitor
silence_ticked contents t old new silence =
    subst (λ (n : Ledger). IsTicked t old.network.monitor n.monitor) (sym silence.network)
    (ticked_on t t old.network.monitor (after_darks silence.darks (scene_of old)).network (omega arith) (darks_ticked t silence.darks (scene_of old) silence.are))

pub turn_taken : {O : Type 0} (contents : O → Option (List ℕ)) (t : ℕ) (sender : Endpoint) (octets : List ℕ) (reading : Result Packet PacketFault) (old new : Follower O) → reading ≡ reading_packet octets
    → TellsTurn contents t sender reading old new → IsTaken t sender octets old.network.monitor new.network.monitor
turn_taken contents t sender octets reading old new read turn =
    subst (λ (n : Ledger). IsTaken t sender octets old.network.monitor n.monitor)
    (sym (turn.network ∙ ap (λ (r : Result Packet PacketFault). taken t sender r (after_darks turn.darks (scene_of old)).network) read))
    (taken_on t sender octets old.network.monitor (after_darks turn.darks (scene_of old)).network (darks_ticked t turn.darks (scene_of old) turn.are))

-- ---- the node

abbrev of_both : Ledger → Option Staged → Scene
of_both network stage = record { network = network; stage = stage }

pub dark_scene : {T E : Type 0} (r : Result T E) (at : ℕ) (old : Scene) (network : Ledger) (stage : Option Staged) → network ≡ ticked at old.network → OnOk r (stage ≡ after_loss at old.stage)
    → OnOk r (of_both network stage ≡ after_dark at old)
dark_scene (Err fault) at old network stage ticks loses = tt
dark_scene (Ok x) at old network stage ticks loses = ap (λ (n : Ledger). of_both n stage) ticks ∙ ap (λ (o : Option Staged). of_both (ticked at old.network) o) loses

-- ---- the texts

module _ {O : Type 0} (contents : O → Option (List ℕ)) where
  -- what a writer was told, in order
  record AreWritten (told : List Told) (old new : LineWriter O) : Type 0 where
    pub options : new.options ≡ old.options
    pub failed : new.failure ≡ None → old.failure ≡ None
    pub text : new.failure ≡ None → Tells contents old.teller new.teller (told_lines old.teller.form old.options.universes.now told)

  all_written : (told : List Told) (old new : LineWriter O) → AreTold (Writes contents) told old new → AreWritten told old new
  unfolding AreTold
  all_written [] old new same =
      subst (λ (w : LineWriter O). AreWritten [] old w) (sym same) (record { options = refl; failed = λ none. none; text = λ none. nothing {O = O} contents old.teller })
  all_written (first ∷ more) old new (mid, wrote, rest) =
      let later = all_written more mid new rest in
      record {
        options = later.options ∙ wrote.options;
        failed = λ none. wrote.failed (later.failed none);
        text = λ none.
            let begun = wrote.text (later.failed none) in
            both {O = O} contents old.teller mid.teller new.teller (told_text old.teller.form old.options.universes.now first) (told_lines old.teller.form old.options.universes.now more) begun
            (subst (λ (form : Form). Tells contents mid.teller new.teller (told_lines form old.options.universes.now more)) begun.form
            (subst (λ (wanted : List ℕ). Tells contents mid.teller new.teller (told_lines mid.teller.form wanted more)) (ap (λ o. o.universes.now) wrote.options) (later.text none)));
      }

  -- what a network told a writer, once that was found to keep no failure
  pub settled : (told : List Told) (old said new : LineWriter O) → AreTold (Writes contents) told old said → said.failure ≡ None → new.teller ≡ said.teller
      → Tells contents old.teller new.teller (told_lines old.teller.form old.options.universes.now told)
  settled told old said new are none same =
      subst (λ (teller : Teller O). Tells contents old.teller teller (told_lines old.teller.form old.options.universes.now told)) (sym same) ((all_written told old said are).text none)

  pub settled_options : (told : List Told) (old said new : LineWriter O) → AreTold (Writes contents) told old said → new.options ≡ said.options → new.options ≡ old.options
  settled_options told old said new are same = same ∙ (all_written told old said are).options

  -- a call that told what its form and the universes asked for ask for, behind another
  pub next_told : (a b c : LineWriter O) (x y : Form → List ℕ → List ℕ) → b.options ≡ a.options → Tells contents a.teller b.teller (x a.teller.form a.options.universes.now)
      → Tells contents b.teller c.teller (y b.teller.form b.options.universes.now) → Tells contents a.teller c.teller (x a.teller.form a.options.universes.now ++ y a.teller.form a.options.universes.now)
  next_told a b c x y options first next =
      both {O = O} contents a.teller b.teller c.teller (x a.teller.form a.options.universes.now) (y a.teller.form a.options.universes.now) first
      (subst (λ (form : Form). Tells contents b.teller c.teller (y form a.options.universes.now)) first.form
      (subst (λ (wanted : List ℕ). Tells contents b.teller c.teller (y b.teller.form wanted)) (ap (λ o. o.universes.now) options) next))

  -- the node lost nothing yet
  pub none_dark : (t : ℕ) (old : Follower O) → TellsDark contents t old old
  none_dark t old = record { darks = []; are = tt; told = nothing {O = O} contents old.writer.teller; scene = refl }

  -- nor when it was asked for its next loss
  pub still_dark : (t : ℕ) (old mid new : Follower O) → scene_of new ≡ scene_of mid → new.writer ≡ mid.writer → TellsDark contents t old mid → TellsDark contents t old new
  still_dark t old mid new scene writer dark = record {
    darks = dark.darks;
    are = dark.are;
    told = subst (λ (w : LineWriter O). Tells contents old.writer.teller w.teller (darks_told dark.darks (scene_of old) old.writer.teller.form old.writer.options.universes.now)) (sym writer) dark.told;
    scene = scene ∙ dark.scene;
  }

  -- once more
  pub one_more_dark : (t at : ℕ) (old mid new : Follower O) → at ≤ t → IsNextDark at (staged mid.stage) → mid.writer.options ≡ old.writer.options → TellsDark contents t old mid
      → Tells contents mid.writer.teller new.writer.teller (dark_told at (scene_of mid) mid.writer.teller.form mid.writer.options.universes.now) → scene_of new ≡ after_dark at (scene_of mid)
      → TellsDark contents t old new
  one_more_dark t at old mid new by next options so_far told after =
      let darks = so_far.darks in
      let now = after_darks darks (scene_of old) in
      record {
        darks = at ∷ darks;
        are = (so_far.are, by, subst (λ (s : Scene). IsNextDark at s.stage) so_far.scene next);
        told = next_told old.writer mid.writer new.writer (darks_told darks (scene_of old)) (dark_told at (after_darks darks (scene_of old))) options so_far.told
            (subst (λ (s : Scene). Tells contents mid.writer.teller new.writer.teller (dark_told at s mid.writer.teller.form mid.writer.options.universes.now)) so_far.scene told);
        scene = after ∙ ap (after_dark at) so_far.scene;
      }

  -- the node loses a source: first the losses of the network were written, and then its frames
  pub dark_written : {T E : Type 0} (r : Result T E) (at : ℕ) (s : Scene) (network : Ledger) (a b c : LineWriter O) → network ≡ ticked at s.network → b.options ≡ a.options
      → Tells contents a.teller b.teller (told_lines a.teller.form a.options.universes.now (tick_told at s.network))
      → OnOk r (Tells contents b.teller c.teller (loss_shown b.teller.form at (dark_reason at network s.stage) s.stage)) → OnOk r (Tells contents a.teller c.teller (dark_told at s a.teller.form a.options.universes.now))
  dark_written (Err fault) at s network a b c after options first next = tt
  dark_written (Ok x) at s network a b c after options first next =
      next_told a b c (λ form wanted. told_lines form wanted (tick_told at s.network)) (λ form wanted. loss_shown form at (dark_reason at (ticked at s.network) s.stage) s.stage) options first
      (subst (λ (n : Ledger). Tells contents b.teller c.teller (loss_shown b.teller.form at (dark_reason at n s.stage) s.stage)) after next)

  -- the losses of the network that are left
  pub silence_is_told : (t : ℕ) (old mid new : Follower O) → mid.writer.options ≡ old.writer.options → TellsDark contents t old mid
      → Tells contents mid.writer.teller new.writer.teller (told_lines mid.writer.teller.form mid.writer.options.universes.now (tick_told t mid.network))
      → new.network ≡ ticked t mid.network → new.stage ≡ mid.stage → TellsSilence contents t old new
  silence_is_told t old mid new options dark told network stage =
      let s = after_darks dark.darks (scene_of old) in
      record {
        darks = dark.darks;
        are = dark.are;
        told = next_told old.writer mid.writer new.writer (darks_told dark.darks (scene_of old)) (λ form wanted. told_lines form wanted (tick_told t (after_darks dark.darks (scene_of old)).network)) options dark.told
            (subst (λ (s : Scene). Tells contents mid.writer.teller new.writer.teller (told_lines mid.writer.teller.form mid.writer.options.universes.now (tick_told t s.network))) dark.scene told);
        network = network ∙ ap (λ (s : Scene). ticked t s.network) dark.scene;
        stage = ap staged stage ∙ ap (λ (s : Scene). s.stage) dark.scene;
      }

  -- a datagram, once what the node lost was told: what the network tells of it, the list of a page, and the frames
  pub turn_is_told : (t : ℕ) (sender : Endpoint) (reading : Result Packet PacketFault) (old mid paged new : Follower O) (heard : LineWriter O) (network : Ledger) (noted : Noted)
      → mid.writer.options ≡ old.writer.options → mid.listings ≡ old.listings → TellsDark contents t old mid → IsLit t (staged mid.stage) → LeavesNone t (ticked t mid.network)
      → heard.options ≡ mid.writer.options → Tells contents mid.writer.teller heard.teller (told_lines mid.writer.teller.form mid.writer.options.universes.now (take_told t sender reading mid.network))
      → noted ≡ note_of t sender reading (ticked t mid.network) → network ≡ taken t sender reading mid.network
      → paged.writer.options ≡ heard.options → paged.network ≡ network → paged.stage ≡ mid.stage → Tells contents heard.teller paged.writer.teller (page_told heard.teller.form t reading (list_book mid.listings))
      → Tells contents paged.writer.teller new.writer.teller (turn_shown paged.writer.teller.form t reading (cause_among paged.network.monitor.streams noted) (staged paged.stage))
      → new.network ≡ paged.network → staged new.stage ≡ after_turn t reading (staged paged.stage) → TellsTurn contents t sender reading old new
  turn_is_told t sender reading old mid paged new heard network noted options listings dark lit silent heard_options said noted_is network_is paged_options paged_network paged_stage page shows last_network last_stage =
      let s = after_darks dark.darks (scene_of old) in
      let scene = dark.scene in
      let carried : paged.network ≡ taken t sender reading mid.network = paged_network ∙ network_is in
      let cause = ap (λ (n : Ledger). cause_among n.monitor.streams noted) carried ∙ ap (λ (x : Noted). cause_among (taken t sender reading mid.network).monitor.streams x) noted_is in
      let frames = subst (λ (o : Option Staged). Tells contents paged.writer.teller new.writer.teller (turn_shown paged.writer.teller.form t reading (cause_among (taken t sender reading mid.network).monitor.streams (note_of t sender reading (ticked t mid.network))) o)) (ap staged paged_stage)
      (rw cause at shows) in
      let lists = subst (λ (l : ListBook). Tells contents heard.teller paged.writer.teller (page_told heard.teller.form t reading l)) (ap list_book listings) page in
      let datagram : Tells contents mid.writer.teller new.writer.teller (datagram_told t sender reading (list_book old.listings) (scene_of mid) mid.writer.teller.form mid.writer.options.universes.now)
      = next_told mid.writer heard new.writer (λ form wanted. told_lines form wanted (take_told t sender reading mid.network))
      (λ form wanted. page_told form t reading (list_book old.listings) ++ turn_shown form t reading (cause_among (taken t sender reading mid.network).monitor.streams (note_of t sender reading (ticked t mid.network))) (staged mid.stage))
      heard_options said
      (next_told heard paged.writer new.writer (λ form wanted. page_told form t reading (list_book old.listings))
      (λ form wanted. turn_shown form t reading (cause_among (taken t sender reading mid.network).monitor.streams (note_of t sender reading (ticked t mid.network))) (staged mid.stage)) paged_options lists frames) in
      record {
        darks = dark.darks;
        are = dark.are;
        lit = subst (λ (x : Scene). IsLit t x.stage) scene lit;
        silent = subst (λ (x : Scene). LeavesNone t (ticked t x.network)) scene silent;
        told = next_told old.writer mid.writer new.writer (darks_told dark.darks (scene_of old)) (datagram_told t sender reading (list_book old.listings) s) options dark.told
            (subst (λ (x : Scene). Tells contents mid.writer.teller new.writer.teller (datagram_told t sender reading (list_book old.listings) x mid.writer.teller.form mid.writer.options.universes.now)) scene datagram);
        network = last_network ∙ carried ∙ ap (λ (x : Scene). taken t sender reading x.network) scene;
        stage = last_stage ∙ ap (λ (o : Option Staged). after_turn t reading o) (ap staged paged_stage ∙ ap (λ (x : Scene). x.stage) scene);
      }
