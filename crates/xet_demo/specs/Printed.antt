-- Replies as text.
use Rattle.std.specs.Prelude.{ℕ, ◌+◌, ◌==◌, List, [], ◌∷◌, ◌++◌, length, Bool, true, false, Option, Some, None, codes, if◌then◌else◌}
use Rattle.std.specs.List.{flat_map}
use Rattle.std.specs.Fmt.{decimal}
use Rattle.hex.specs.Hex.{encode_lower}
use Rattle.xet_types.specs.declared.error.FormatFault.TheVariants as faults
use Rattle.xet_types.specs.declared.error.Refusal.{Refusal}
use Rattle.xet_types.specs.declared.error.Refusal.TheVariants as refusals
use Rattle.xet_types.specs.declared.record.XorbReconstructionTerm.{XorbReconstructionTerm}
use Rattle.xet_types.specs.declared.record.XorbRangeDescriptor.{XorbRangeDescriptor}
use Rattle.xet_service.specs.declared.step.PlanVersion.{PlanVersion}
use Rattle.xet_service.specs.declared.step.PlanVersion.TheVariants.{V1, V2}
use Rattle.xet_service.specs.Links.{LinkModel}
use Rattle.xet_service.specs.declared.reply.CacheNote.{CacheNote}
use Rattle.xet_service.specs.declared.reply.CacheRefusal.{CacheRefusal}
use Rattle.xet_service.specs.declared.reply.CacheRefusal.TheVariants as caches
use Rattle.xet_service.specs.declared.reply.Reply.{Reply}
use Rattle.xet_service.specs.declared.reply.Reply.TheVariants.{Uploaded, ShardTaken, NoPlan, Done, Planned, Fetched, Finished, NoShard, ShardBytes, Random, Size, Data, Refused, Hashes, Files, Lazy, Batch}

-- one text after another
abbrev pub joined : List (List ℕ) → List ℕ
joined texts = flat_map (λ text. text) texts

-- lower-case digits, or `-` for no bytes
abbrev pub octets_text : List ℕ → List ℕ
octets_text bytes = if length bytes == 0 then codes "-" else encode_lower bytes

abbrev pub truth_word : Bool → List ℕ
truth_word true = codes "true"
truth_word false = codes "false"

abbrev pub version_word : PlanVersion → List ℕ
version_word V1 = codes "v1"
version_word V2 = codes "v2"

unfoldable pub uploaded_line : ℕ → List ℕ
uploaded_line n = joined (codes "xorb " ∷ decimal n ∷ codes "\n" ∷ [])

unfoldable pub shard_line : Bool → List ℕ
shard_line taken = joined (codes "shard " ∷ truth_word taken ∷ codes "\n" ∷ [])

unfoldable pub none_line : List ℕ
none_line = codes "none\n"

unfoldable pub done_line : List ℕ
done_line = codes "done\n"

unfoldable pub size_line : ℕ → List ℕ
size_line n = joined (codes "size " ∷ decimal n ∷ codes "\n" ∷ [])

unfoldable pub hashes_start : ℕ → List ℕ
hashes_start n = joined (codes "hashes " ∷ decimal n ∷ codes "\n" ∷ [])

unfoldable pub hash_line : List ℕ → List ℕ
hash_line hash = joined (encode_lower hash ∷ codes "\n" ∷ [])

abbrev pub hashes_text : List (List ℕ) → List ℕ
hashes_text hashes = flat_map hash_line hashes

unfoldable pub files_start : ℕ → List ℕ
files_start n = joined (codes "files " ∷ decimal n ∷ codes "\n" ∷ [])

-- a file, and the shard that lists it
unfoldable pub entry_line : List ℕ × List ℕ → List ℕ
entry_line entry = joined (encode_lower entry.0 ∷ codes " " ∷ encode_lower entry.1 ∷ codes "\n" ∷ [])

abbrev pub entries_text : List (List ℕ × List ℕ) → List ℕ
entries_text entries = flat_map entry_line entries

unfoldable pub random_line : List ℕ → List ℕ
random_line hash = joined (codes "random " ∷ encode_lower hash ∷ codes "\n" ∷ [])

-- a file's name, and how many bytes it has
unfoldable pub lazy_line : List ℕ → ℕ → List ℕ
lazy_line file size = joined (codes "lazy " ∷ encode_lower file ∷ codes " " ∷ decimal size ∷ codes "\n" ∷ [])

unfoldable pub dedup_start : List ℕ
dedup_start = codes "dedup "

unfoldable pub data_start : List ℕ
data_start = codes "data "

unfoldable pub plan_line : ℕ → PlanVersion → ℕ → ℕ → ℕ → List ℕ
plan_line read version offset terms links =
    joined (codes "plan " ∷ decimal read ∷ codes " " ∷ version_word version ∷ codes " offset " ∷ decimal offset ∷ codes " terms " ∷ decimal terms ∷ codes " links " ∷ decimal links ∷ codes "\n" ∷ [])

-- chunks with an exclusive end
unfoldable pub term_line : XorbReconstructionTerm → List ℕ
term_line t =
    joined (codes "term " ∷ encode_lower t.hash ∷ codes " " ∷ decimal t.range.start ∷ codes "-" ∷ decimal t.range.end ∷ codes " " ∷ decimal t.unpacked_length ∷ codes "\n" ∷ [])

abbrev pub terms_text : List XorbReconstructionTerm → List ℕ
terms_text terms = flat_map term_line terms

-- chunks with an exclusive end, bytes with an inclusive one; what stands before is for all but the first
unfoldable pub range_text : List ℕ → XorbRangeDescriptor → List ℕ
range_text before r =
    joined (before ∷ decimal r.chunks.start ∷ codes "-" ∷ decimal r.chunks.end ∷ codes "@" ∷ decimal r.bytes.start ∷ codes "-" ∷ decimal r.bytes.end ∷ [])

-- with commas between
abbrev pub ranges_text : List XorbRangeDescriptor → List ℕ
ranges_text [] = []
ranges_text (r ∷ rs) = range_text [] r ++ flat_map (range_text (codes ",")) rs

unfoldable pub link_start : ℕ → List ℕ → List ℕ
link_start n url = joined (codes "link " ∷ decimal n ∷ codes " " ∷ url ∷ codes " " ∷ [])

abbrev pub link_line : ℕ → LinkModel → List ℕ
link_line n l = link_start n l.url ++ ranges_text l.ranges ++ codes "\n"

-- the links are numbered
abbrev pub links_text : ℕ → List LinkModel → List ℕ
links_text n [] = []
links_text n (l ∷ ls) = link_line n l ++ links_text (n + 1) ls

unfoldable pub batch_start : ℕ → ℕ → List ℕ
batch_start files links = joined (codes "batch files " ∷ decimal files ∷ codes " links " ∷ decimal links ∷ codes "\n" ∷ [])

unfoldable pub file_start : List ℕ → ℕ → List ℕ
file_start hash terms = joined (codes "file " ∷ encode_lower hash ∷ codes " terms " ∷ decimal terms ∷ codes "\n" ∷ [])

-- a file and its terms
abbrev pub file_text : (List ℕ × List XorbReconstructionTerm) → List ℕ
file_text file = file_start file.0 (length file.1) ++ terms_text file.1

abbrev pub all_files_text : List (List ℕ × List XorbReconstructionTerm) → List ℕ
all_files_text files = flat_map file_text files

unfoldable pub entry_start : List ℕ → List ℕ → List ℕ
entry_start hash url = joined (codes "entry " ∷ encode_lower hash ∷ codes " " ∷ url ∷ codes " " ∷ [])

-- a link of a plan of several files, under its xorb
abbrev pub xorb_entry_line : LinkModel → List ℕ
xorb_entry_line l = entry_start l.hash l.url ++ ranges_text l.ranges ++ codes "\n"

abbrev pub xorb_entries_text : List LinkModel → List ℕ
xorb_entries_text links = flat_map xorb_entry_line links

abbrev pub cache_word : Option CacheRefusal → List ℕ
cache_word None = codes "none"
cache_word (Some caches.General) = codes "general"
cache_word (Some caches.Io) = codes "io"
cache_word (Some caches.Parse) = codes "parse"
cache_word (Some caches.BadRange) = codes "bad-range"
cache_word (Some caches.InvalidArguments) = codes "arguments"
cache_word (Some caches.OutOfMemory) = codes "memory"
cache_word (Some caches.Disagrees) = codes "disagrees"

unfoldable pub note_text : ℕ → CacheNote → List ℕ
note_text wire note =
    joined (codes "wire " ∷ decimal wire ∷ codes " hits " ∷ decimal note.hits ∷ codes " stored " ∷ decimal note.stored ∷ codes " refused " ∷ cache_word note.refused ∷ [])

unfoldable pub fetched_start : ℕ → ℕ → ℕ → List ℕ
fetched_start read link left = joined (codes "fetched " ∷ decimal read ∷ codes " " ∷ decimal link ∷ codes " left " ∷ decimal left ∷ codes " " ∷ [])

unfoldable pub finished_start : ℕ → List ℕ
finished_start read = joined (codes "finished " ∷ decimal read ∷ codes " " ∷ [])

-- the first word of a refusal
abbrev pub refusal_word : Refusal → List ℕ
refusal_word (refusals.FormatError faults.Xorb) = codes "format-xorb"
refusal_word (refusals.FormatError faults.Shard) = codes "format-shard"
refusal_word (refusals.FormatError faults.Segment) = codes "format-segment"
refusal_word (refusals.FormatError faults.Table) = codes "format-table"
refusal_word (refusals.FormatError faults.Body) = codes "format-body"
refusal_word refusals.InvalidRange = codes "range"
refusal_word refusals.InvalidArguments = codes "arguments"
refusal_word (refusals.FileNotFound hash) = codes "file "
refusal_word (refusals.XORBNotFound hash) = codes "xorb "
refusal_word refusals.PresignedUrlExpirationError = codes "expired"
refusal_word refusals.IOError = codes "io"
refusal_word refusals.Other = codes "other"
refusal_word refusals.InvalidKey = codes "key"
refusal_word refusals.CacheError = codes "cache"
refusal_word (refusals.HttpStatus status) = codes "status "

-- what stands behind it
abbrev pub refusal_detail : Refusal → List ℕ
refusal_detail (refusals.FormatError fault) = []
refusal_detail refusals.InvalidRange = []
refusal_detail refusals.InvalidArguments = []
refusal_detail (refusals.FileNotFound hash) = encode_lower hash
refusal_detail (refusals.XORBNotFound hash) = encode_lower hash
refusal_detail refusals.PresignedUrlExpirationError = []
refusal_detail refusals.IOError = []
refusal_detail refusals.Other = []
refusal_detail refusals.InvalidKey = []
refusal_detail refusals.CacheError = []
refusal_detail (refusals.HttpStatus status) = decimal status

unfoldable pub refused_line : Refusal → List ℕ
refused_line why = joined (codes "refused " ∷ refusal_word why ∷ refusal_detail why ∷ codes "\n" ∷ [])

-- the lines of a reply, each of them with LF at its end
abbrev pub reply_text : Reply → List ℕ
reply_text (Uploaded n) = uploaded_line n
reply_text (ShardTaken taken) = shard_line taken
reply_text NoPlan = none_line
reply_text Done = done_line
reply_text (Planned version read offset terms links) = plan_line read version offset (length terms) (length links) ++ terms_text terms ++ links_text 0 links
reply_text (Fetched read link left wire cache) = fetched_start read link left ++ note_text wire cache ++ codes "\n"
reply_text (Finished read bytes wire cache) = finished_start read ++ note_text wire cache ++ codes " " ++ octets_text bytes ++ codes "\n"
reply_text NoShard = none_line
reply_text (ShardBytes bytes) = dedup_start ++ octets_text bytes ++ codes "\n"
reply_text (Hashes hashes) = hashes_start (length hashes) ++ hashes_text hashes
reply_text (Files files) = files_start (length files) ++ entries_text files
reply_text (Random hash) = random_line hash
reply_text (Size n) = size_line n
reply_text (Data bytes) = data_start ++ octets_text bytes ++ codes "\n"
reply_text (Lazy file size) = lazy_line file size
reply_text (Batch files links) = batch_start (length files) (length links) ++ all_files_text files ++ xorb_entries_text links
reply_text (Refused why) = refused_line why

-- the lines of replies, one reply after another
abbrev pub replies_text : List Reply → List ℕ
replies_text replies = flat_map reply_text replies
