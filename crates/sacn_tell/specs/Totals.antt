-- The row of all counts of a recording: for people, and as an object of JSON.
use Rattle.std.specs.Prelude.{ℕ, ◌-◌, ◌^◌, min, nat_lt, sum, Bool, List, [], ◌∷◌, ◌++◌, codes, decimal, if◌then◌else◌}
use Rattle.std.specs.List.{flat_map, list_any}
use Rattle.sacn_capture.specs.declared.frame_counts.FrameCounts.{FrameCounts}
use Rattle.sacn_capture.specs.declared.links.Passed.{Passed}
use Rattle.sacn_capture.specs.declared.links.Passed.TheVariants.{NotIp, Ipv6, NotIpv4, NotUdp, Fragment, Cut, OtherLink, TooLong}
use Rattle.sacn_capture.specs.Counting.{passed_for}
use Rattle.sacn_tell.specs.declared.options.Form.{Form}
use Rattle.sacn_tell.specs.declared.options.Form.TheVariants.{Text, Json}
use Rattle.sacn_tell.specs.declared.report.Report.{Report}
use Rattle.sacn_tell.specs.declared.report.TheConstants.{UNREAD, UNREAD_HEAD}
use Rattle.sacn_tell.specs.Spelling.{flush_left}
use Rattle.sacn_tell.specs.Members.{number_member, row_front}

-- all datagrams that are no packets, at most what 64 bits hold
unfoldable pub refused_in : Report → ℕ
refused_in r = min (sum r.tally.refused) (2 ^ 64 - 1)

-- all frames with no datagram
unfoldable pub passed_in : Report → ℕ
passed_in r = min (sum (r.frames.not_ip ∷ r.frames.ipv6 ∷ r.frames.not_ipv4 ∷ r.frames.not_udp ∷ r.frames.fragments ∷ r.frames.cut ∷ r.frames.other_links ∷ r.frames.too_long ∷ [])) (2 ^ 64 - 1)

-- a count behind its name, on a line of its own
unfoldable pub named_count : List ℕ → ℕ → List ℕ
named_count name count = codes "\n" ++ (flush_left 30 name ++ (codes " " ++ decimal count))

-- why a frame has no datagram, as a word and as a member's key
abbrev pub reason_words : Passed → List ℕ
reason_words NotIp = codes "something other than IP"
reason_words Ipv6 = codes "IPv6"
reason_words NotIpv4 = codes "a wrong header of IPv4"
reason_words NotUdp = codes "something other than UDP"
reason_words Fragment = codes "a fragment of IP"
reason_words Cut = codes "cut short, as by a snap length"
reason_words OtherLink = codes "a link of an unknown type"
reason_words TooLong = codes "above 65535 octets"

abbrev pub reason_key : Passed → List ℕ
reason_key NotIp = codes "not_ip"
reason_key Ipv6 = codes "ipv6"
reason_key NotIpv4 = codes "wrong_ipv4"
reason_key NotUdp = codes "not_udp"
reason_key Fragment = codes "fragments"
reason_key Cut = codes "cut"
reason_key OtherLink = codes "other_links"
reason_key TooLong = codes "too_long"

-- frames couldn't be read for one of these reasons
abbrev pub is_unread_for : FrameCounts → List Passed → Bool
is_unread_for frames reasons = list_any (λ reason. nat_lt 0 (passed_for reason frames)) reasons

unfoldable pub has_unread : FrameCounts → Bool
has_unread frames = is_unread_for frames UNREAD

-- how many frames couldn't be read, by why: a row for each reason that some have
abbrev pub reason_row : Passed → ℕ → List ℕ
reason_row reason count = if nat_lt 0 count then named_count (reason_words reason) count else []

abbrev pub reason_rows : FrameCounts → List Passed → List ℕ
reason_rows frames reasons = flat_map (λ reason. reason_row reason (passed_for reason frames)) reasons

unfoldable pub unread_text : FrameCounts → List ℕ
unread_text frames = UNREAD_HEAD.now ++ reason_rows frames UNREAD

-- the same as members of an object: each reason, also where no frame has it
abbrev pub reason_members : FrameCounts → List Passed → List ℕ
reason_members frames reasons = flat_map (λ reason. number_member (reason_key reason) (passed_for reason frames)) reasons

abbrev pub unread_members : FrameCounts → List ℕ
unread_members frames = reason_members frames UNREAD

-- what the datagrams to the port were
unfoldable pub tally_text : Report → List ℕ
tally_text r =
    named_count (codes "datagrams to the port") r.tally.datagrams ++ (named_count (codes "refused") (refused_in r)
    ++ (named_count (codes "pages") r.tally.pages ++ (named_count (codes "pages not followed") r.pages_passed
    ++ (named_count (codes "synchronization") r.tally.syncs ++ named_count (codes "not followed") r.tally.untracked))))

-- the other frames
unfoldable pub frames_text : Report → List ℕ
frames_text r =
    named_count (codes "datagrams to other ports") r.other_ports
    ++ (named_count (codes "frames without a datagram") (passed_in r) ++ named_count (codes "frames with an earlier moment") r.went_back)

unfoldable pub counts_text : Report → List ℕ
counts_text r = tally_text r ++ frames_text r

unfoldable pub tally_members : Report → List ℕ
tally_members r =
    number_member (codes "datagrams") r.tally.datagrams ++ (number_member (codes "refused") (refused_in r)
    ++ (number_member (codes "pages") r.tally.pages ++ (number_member (codes "pages_untracked") r.pages_passed
    ++ (number_member (codes "synchronization") r.tally.syncs ++ number_member (codes "untracked") r.tally.untracked))))

unfoldable pub frames_members : Report → List ℕ
frames_members r =
    number_member (codes "other_ports") r.other_ports ++ (number_member (codes "other_frames") (passed_in r)
    ++ (number_member (codes "went_back") r.went_back ++ (unread_members r.frames ++ number_member (codes "ms") r.length)))

unfoldable pub counts_json : Report → List ℕ
counts_json r = row_front (codes "counts") ++ (tally_members r ++ (frames_members r ++ codes "}"))

abbrev pub counts_row : Form → Report → List ℕ
counts_row Text r = counts_text r
counts_row Json r = counts_json r
