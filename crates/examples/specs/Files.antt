-- The files and listings of examples A to L, and of those of requests, byte for byte.
--   file_a, listing_a             == example A as it is typed, and as the program prints it
--   card_at P                     == A with another period of the part card
--   file_f_with parts             == table 1 of document 001, all times doubled, D = T, P = 250, locks r1 and r2, with these lines of other parts behind it
--   file_f                        == the same with a second part that names r1 and r2
--   file_f_one_named              == with a second part that names r2 only
--   file_f_alone                  == without a second part
--   file_private, listing_private == a file with one part, whose lock is private, and its listing
--   file_blocked                  == the same, where the higher task uses the lock too, and so is blocked
--   file_top, listing_top         == a file whose second part has a ceiling below the top, and its listing
--   file_second, listing_second   == a file whose first choice does not pass while another does, and its listing
--   one_part P tasks              == a file with one part of period P and the given task lines
--   two_parts P R                 == a file with two parts, of periods P and R, each with one task
--   every_ticks n                 == a file with one task whose T is written n
--   refusal_line                  == what the program prints of a refusal with this number and place
-- Assumes nothing.
use Rattle.std.specs.Prelude.{ℕ, List, ◌++◌}
use Prim.Native.String.{String}
use Rattle.text.specs.Bytes.{bytes}
use Rattle.text.specs.Decimal.{digits_of}

unfoldable pub file_a : List ℕ
file_a = bytes "part\tcard\t20\ntask\tcopy\t80\t8\t80\nlock\tbuf\t2\npart\tprint\t10\ntask\tfeed\t60\t6\t60\nlock\tbuf\t3\ntask\thead\t30\t2\t30\nend\n"

unfoldable pub listing_a : List ℕ
listing_a = bytes "load\tcard\t17\t20\nshare\tcard\t20\t3\t2\t17\t20\nceiling\tbuf\t1\nshare\tprint\t10\t3\t3\t8\t10\nceiling\tbuf\t2\n"

unfoldable pub card_at : ℕ → List ℕ
card_at P = bytes "part\tcard\t" ++ (digits_of P ++ bytes "\ntask\tcopy\t80\t8\t80\nlock\tbuf\t2\npart\tprint\t10\ntask\tfeed\t60\t6\t60\nlock\tbuf\t3\ntask\thead\t30\t2\t30\nend\n")

unfoldable pub listing_c : List ℕ
listing_c = bytes "load\tcard\t10\t10\nshare\tcard\t10\t2\t2\t10\t10\nceiling\tbuf\t1\nshare\tprint\t10\t3\t3\t8\t10\nceiling\tbuf\t2\n"

unfoldable pub listing_d : List ℕ
listing_d = bytes "load\tcard\t9\t9\nshare\tcard\t9\t1\t2\t9\t9\nceiling\tbuf\t1\nshare\tprint\t10\t3\t3\t8\t10\nceiling\tbuf\t2\n"

unfoldable pub file_f_with : String → List ℕ
file_f_with parts =
    bytes "part\ts\t250\ntask\tt1\t1500\t16\t1500\nlock\tr2\t8\ntask\tt2\t1300\t100\t1300\nlock\tr1\t10\ntask\tt3\t1200\t20\t1200\ntask\tt4\t1000\t70\t1000\nlock\tr1\t20\ntask\tt5\t320\t2\t320\ntask\tt6\t300\t4\t300\n"
    ++ (bytes parts ++ bytes "end\n")

unfoldable pub file_f : List ℕ
file_f = file_f_with "part\to\t250\ntask\tu\t1000\t1\t1000\nlock\tr1\t1\nlock\tr2\t1\n"

unfoldable pub file_f_one_named : List ℕ
file_f_one_named = file_f_with "part\to\t250\ntask\tu\t1000\t1\t1000\nlock\tr2\t1\n"

unfoldable pub file_f_alone : List ℕ
file_f_alone = file_f_with ""

unfoldable pub one_part : String → String → List ℕ
one_part P tasks = bytes "part\tp\t" ++ (bytes P ++ (bytes "\n" ++ (bytes tasks ++ bytes "end\n")))

unfoldable pub two_parts : String → String → List ℕ
two_parts P R = bytes "part\tp\t" ++ (bytes P ++ (bytes "\ntask\tt\t70\t1\t70\npart\tq\t" ++ (bytes R ++ bytes "\ntask\tt\t70\t1\t70\nend\n")))

unfoldable pub listing_i : List ℕ
listing_i = bytes "load\tp\t10\t10\nshare\tp\t10\t10\t0\t10\t10\n"

unfoldable pub file_private : List ℕ
file_private = one_part "10" "task\ta\t60\t6\t60\nlock\tl\t3\ntask\tb\t30\t2\t30\n"

unfoldable pub file_blocked : List ℕ
file_blocked = one_part "10" "task\ta\t60\t6\t60\nlock\tl\t3\ntask\tb\t30\t2\t30\nlock\tl\t1\n"

unfoldable pub listing_private : List ℕ
listing_private = bytes "load\tp\t2\t10\nshare\tp\t10\t2\t0\t2\t10\nceiling\tl\t1\n"

unfoldable pub every_ticks : String → List ℕ
every_ticks n = bytes "part\tp\t1\ntask\tt\t" ++ (bytes n ++ bytes "\t1\t1\nend\n")

unfoldable pub listing_l : List ℕ
listing_l = bytes "load\tp\t1\t1\nshare\tp\t1\t1\t0\t1\t1\n"

unfoldable pub refusal_line : ℕ → ℕ → List ℕ
refusal_line number place = bytes "refused\t" ++ (digits_of number ++ (bytes "\t" ++ (digits_of place ++ bytes "\n")))

unfoldable pub file_top : List ℕ
file_top = bytes "part\ta\t6\ntask\tt\t11\t1\t11\nlock\tl\t1\npart\tb\t6\ntask\tt\t23\t2\t23\nlock\tl\t2\ntask\tu\t23\t1\t11\nend\n"

unfoldable pub listing_top : List ℕ
listing_top = bytes "load\ta\t6\t6\nshare\ta\t6\t1\t1\t6\t6\nceiling\tl\t1\nshare\tb\t6\t1\t3\t5\t6\nceiling\tl\t1\n"

unfoldable pub file_second : List ℕ
file_second = bytes "part\ta\t15\ntask\tt\t33\t3\t33\nlock\tl\t3\ntask\tu\t33\t1\t23\npart\tb\t5\ntask\tt\t9\t1\t9\nlock\tl\t1\nend\n"

unfoldable pub listing_second : List ℕ
listing_second = bytes "load\ta\t15\t15\nshare\ta\t15\t6\t3\t15\t15\nceiling\tl\t2\nshare\tb\t5\t1\t1\t5\t5\nceiling\tl\t1\n"
