-- The names of fields, as the standard writes them (ISO 28500:2017, which is WARC 1.1: section 5, named fields).
use Rattle.std.specs.Prelude.{ℕ, List, codes}

abbrev pub content_length : List ℕ
content_length = codes "Content-Length"

abbrev pub content_type : List ℕ
content_type = codes "Content-Type"

abbrev pub warc_type : List ℕ
warc_type = codes "WARC-Type"

abbrev pub warc_record_id : List ℕ
warc_record_id = codes "WARC-Record-ID"

abbrev pub warc_date : List ℕ
warc_date = codes "WARC-Date"

abbrev pub warc_target_uri : List ℕ
warc_target_uri = codes "WARC-Target-URI"

abbrev pub warc_concurrent_to : List ℕ
warc_concurrent_to = codes "WARC-Concurrent-To"

abbrev pub warc_ip_address : List ℕ
warc_ip_address = codes "WARC-IP-Address"

abbrev pub warc_refers_to : List ℕ
warc_refers_to = codes "WARC-Refers-To"

abbrev pub warc_refers_to_target_uri : List ℕ
warc_refers_to_target_uri = codes "WARC-Refers-To-Target-URI"

abbrev pub warc_refers_to_date : List ℕ
warc_refers_to_date = codes "WARC-Refers-To-Date"

abbrev pub warc_filename : List ℕ
warc_filename = codes "WARC-Filename"

abbrev pub warc_profile : List ℕ
warc_profile = codes "WARC-Profile"

abbrev pub warc_warcinfo_id : List ℕ
warc_warcinfo_id = codes "WARC-Warcinfo-ID"

abbrev pub warc_segment_number : List ℕ
warc_segment_number = codes "WARC-Segment-Number"

abbrev pub warc_segment_origin_id : List ℕ
warc_segment_origin_id = codes "WARC-Segment-Origin-ID"

abbrev pub warc_segment_total_length : List ℕ
warc_segment_total_length = codes "WARC-Segment-Total-Length"

abbrev pub warc_block_digest : List ℕ
warc_block_digest = codes "WARC-Block-Digest"

abbrev pub warc_payload_digest : List ℕ
warc_payload_digest = codes "WARC-Payload-Digest"

abbrev pub warc_truncated : List ℕ
warc_truncated = codes "WARC-Truncated"

abbrev pub warc_identified_payload_type : List ℕ
warc_identified_payload_type = codes "WARC-Identified-Payload-Type"
