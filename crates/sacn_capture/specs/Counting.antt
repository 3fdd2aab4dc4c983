-- How many frames there were of each kind.
use Rattle.std.specs.Prelude.{ℕ, ◌+◌, ◌-◌, ◌^◌, min, Option, None, Some, Result, Ok, Err}
use Rattle.sacn_capture.specs.declared.frame_counts.FrameCounts.{FrameCounts}
use Rattle.sacn_capture.specs.declared.frame.Datagram.{Datagram}
use Rattle.sacn_capture.specs.Frames.{Sent}
use Rattle.sacn_capture.specs.declared.links.Passed.{Passed}
use Rattle.sacn_capture.specs.declared.links.Passed.TheVariants.{NotIp, Ipv6, NotIpv4, NotUdp, Fragment, Cut, OtherLink, TooLong}

abbrev pub none_counted : FrameCounts
none_counted = record { datagrams = 0; not_ip = 0; ipv6 = 0; not_ipv4 = 0; not_udp = 0; fragments = 0; cut = 0; other_links = 0; too_long = 0 }

-- why a frame was passed over; none where it has a datagram
abbrev pub passed_of : Result Datagram Passed → Option Passed
passed_of (Ok datagram) = None
passed_of (Err passed) = Some passed

-- the same of what a datagram is
abbrev pub passed_by : Result Sent Passed → Option Passed
passed_by (Ok sent) = None
passed_by (Err passed) = Some passed

-- one more, at most what 64 bits hold
abbrev pub more : ℕ → ℕ
more n = min (n + 1) (2 ^ 64 - 1)

-- the counts with one more frame
abbrev pub count_frame : Option Passed → FrameCounts → FrameCounts
count_frame None counts = record counts { datagrams = more counts.datagrams }
count_frame (Some NotIp) counts = record counts { not_ip = more counts.not_ip }
count_frame (Some Ipv6) counts = record counts { ipv6 = more counts.ipv6 }
count_frame (Some NotIpv4) counts = record counts { not_ipv4 = more counts.not_ipv4 }
count_frame (Some NotUdp) counts = record counts { not_udp = more counts.not_udp }
count_frame (Some Fragment) counts = record counts { fragments = more counts.fragments }
count_frame (Some Cut) counts = record counts { cut = more counts.cut }
count_frame (Some OtherLink) counts = record counts { other_links = more counts.other_links }
count_frame (Some TooLong) counts = record counts { too_long = more counts.too_long }

-- the frames that were passed over for a reason
abbrev pub passed_for : Passed → FrameCounts → ℕ
passed_for NotIp counts = counts.not_ip
passed_for Ipv6 counts = counts.ipv6
passed_for NotIpv4 counts = counts.not_ipv4
passed_for NotUdp counts = counts.not_udp
passed_for Fragment counts = counts.fragments
passed_for Cut counts = counts.cut
passed_for OtherLink counts = counts.other_links
passed_for TooLong counts = counts.too_long
