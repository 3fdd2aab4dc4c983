-- The members of a document, one behind the other, are the document.
use Rattle.std.proofs.Common.{◌≡◌, ℕ, List, ◌++◌, Option, codes, ap, ◌∙◌, append_assoc}
use Rattle.sacn_monitor.specs.declared.stream.Stream.{Stream}
use Rattle.sacn_monitor.specs.declared.tally.Tally.{Tally}
use Rattle.sacn_monitor.specs.Books.{Book}
use Rattle.sacn_network.specs.LitUniverses.{Lit}
use Rattle.sacn_network.specs.Sets.{universes_in}
use Rattle.sacn_tell.specs.Numbers.{numbers_member}
use Rattle.sacn_page.specs.Alarms.{KeptAlarms}
use Rattle.sacn_page.specs.declared.board.Board.{Board}
use Rattle.sacn_page.specs.declared.document.Counts.{Counts}
use Rattle.sacn_page.specs.declared.scene.Facts.{Facts}
use Rattle.sacn_page.specs.AlarmTexts.{alarms_member}
use Rattle.sacn_page.specs.Documents.{counts_member, counts_of, first_number, sources_member, universe_member}
use Rattle.sacn_page.specs.WholeDocuments.{document, lit_members, lit_of, recording_member, universe_shown}

-- a piece, and then the rest
pub joined : (start mid new piece rest : List ℕ) → mid ≡ start ++ piece → new ≡ mid ++ rest → new ≡ start ++ (piece ++ rest)
joined start mid new piece rest first then = then ∙ ap (λ (text : List ℕ). text ++ rest) first ∙ append_assoc start piece rest

-- nine pieces
pub nine_joined : (t0 t1 t2 t3 t4 t5 t6 t7 t8 t9 p1 p2 p3 p4 p5 p6 p7 p8 p9 : List ℕ)
    → t1 ≡ t0 ++ p1 → t2 ≡ t1 ++ p2 → t3 ≡ t2 ++ p3 → t4 ≡ t3 ++ p4 → t5 ≡ t4 ++ p5 → t6 ≡ t5 ++ p6 → t7 ≡ t6 ++ p7 → t8 ≡ t7 ++ p8 → t9 ≡ t8 ++ p9
    → t9 ≡ t0 ++ (p1 ++ (p2 ++ (p3 ++ (p4 ++ (p5 ++ (p6 ++ (p7 ++ (p8 ++ p9))))))))
nine_joined t0 t1 t2 t3 t4 t5 t6 t7 t8 t9 p1 p2 p3 p4 p5 p6 p7 p8 p9 e1 e2 e3 e4 e5 e6 e7 e8 e9 =
    let from8 = joined t7 t8 t9 p8 p9 e8 e9 in
    let from7 = joined t6 t7 t9 p7 (p8 ++ p9) e7 from8 in
    let from6 = joined t5 t6 t9 p6 (p7 ++ (p8 ++ p9)) e6 from7 in
    let from5 = joined t4 t5 t9 p5 (p6 ++ (p7 ++ (p8 ++ p9))) e5 from6 in
    let from4 = joined t3 t4 t9 p4 (p5 ++ (p6 ++ (p7 ++ (p8 ++ p9)))) e4 from5 in
    let from3 = joined t2 t3 t9 p3 (p4 ++ (p5 ++ (p6 ++ (p7 ++ (p8 ++ p9))))) e3 from4 in
    let from2 = joined t1 t2 t9 p2 (p3 ++ (p4 ++ (p5 ++ (p6 ++ (p7 ++ (p8 ++ p9)))))) e2 from3 in
    joined t0 t1 t9 p1 (p2 ++ (p3 ++ (p4 ++ (p5 ++ (p6 ++ (p7 ++ (p8 ++ p9))))))) e1 from2

-- the members of what is known, each of what its own call read
pub document_joined : (facts : Option Facts) (b : Board) (named : Option ℕ)
    (t0 t1 t2 t3 t4 t5 t6 t7 t8 t9 : List ℕ)
    (monitor : Book) (moment : ℕ) (streams : List Stream) (universe : Option ℕ) (heard : List ℕ) (lit : Option Lit) (given : ℕ) (alarms : KeptAlarms) (tally : Tally) (counts : Counts)
    → monitor ≡ b.network.monitor → moment ≡ monitor.moment → streams ≡ monitor.streams
    → universe ≡ universe_shown named b.preferred b.network.monitor.streams → heard ≡ universes_in b.network.heard → lit ≡ lit_of b.lit.items universe
    → given ≡ 0 → alarms ≡ b.alarms → tally ≡ monitor.tally → counts ≡ counts_of tally
    → t1 ≡ t0 ++ first_number (codes "ms") moment → t2 ≡ t1 ++ recording_member facts → t3 ≡ t2 ++ universe_member universe
    → t4 ≡ t3 ++ numbers_member (codes "heard") heard → t5 ≡ t4 ++ sources_member moment streams → t6 ≡ t5 ++ lit_members monitor.streams lit
    → t7 ≡ t6 ++ alarms_member given streams alarms → t8 ≡ t7 ++ counts_member counts → t9 ≡ t8 ++ codes "}"
    → t9 ≡ t0 ++ document facts b named
unfolding document
document_joined facts b named t0 t1 t2 t3 t4 t5 t6 t7 t8 t9 monitor moment streams universe heard lit given alarms tally counts
    monitor_is moment_is streams_is universe_is heard_is lit_is given_is alarms_is tally_is counts_is e1 e2 e3 e4 e5 e6 e7 e8 e9 =
    let book = b.network.monitor in
    let chosen = universe_shown named b.preferred book.streams in
    let clock : moment ≡ book.moment = moment_is ∙ ap (λ (m : Book). m.moment) monitor_is in
    let sources : streams ≡ book.streams = streams_is ∙ ap (λ (m : Book). m.streams) monitor_is in
    let count : counts ≡ counts_of book.tally = counts_is ∙ ap (λ (t : Tally). counts_of t) (tally_is ∙ ap (λ (m : Book). m.tally) monitor_is) in
    let shown : lit ≡ lit_of b.lit.items chosen = lit_is ∙ ap (λ (u : Option ℕ). lit_of b.lit.items u) universe_is in
    nine_joined t0 t1 t2 t3 t4 t5 t6 t7 t8 t9 _ _ _ _ _ _ _ _ _
    (e1 ∙ ap (λ (m : ℕ). t0 ++ first_number (codes "ms") m) clock)
    e2
    (e3 ∙ ap (λ (u : Option ℕ). t2 ++ universe_member u) universe_is)
    (e4 ∙ ap (λ (h : List ℕ). t3 ++ numbers_member (codes "heard") h) heard_is)
    (e5 ∙ ap (λ (m : ℕ). t4 ++ sources_member m streams) clock ∙ ap (λ (ss : List Stream). t4 ++ sources_member book.moment ss) sources)
    (e6 ∙ ap (λ (m : Book). t5 ++ lit_members m.streams lit) monitor_is ∙ ap (λ (l : Option Lit). t5 ++ lit_members book.streams l) shown)
    (e7 ∙ ap (λ (n : ℕ). t6 ++ alarms_member n streams alarms) given_is ∙ ap (λ (ss : List Stream). t6 ++ alarms_member 0 ss alarms) sources ∙ ap (λ (a : KeptAlarms). t6 ++ alarms_member 0 book.streams a) alarms_is)
    (e8 ∙ ap (λ (n : Counts). t7 ++ counts_member n) count)
    e9
