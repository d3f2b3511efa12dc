-- Document 01, "Characters": bytes are EBCDIC. Only upper case letters count. Assumes nothing.
use Rattle.std.specs.Prelude.{ℕ, Bool, ◌&&◌, ◌||◌, leb, eqb}

-- a byte from low to high
abbrev pub within : ℕ → ℕ → ℕ → Bool
within low high b = leb low b && leb b high

-- the byte b
abbrev pub is_byte : ℕ → ℕ → Bool
is_byte b x = eqb x b

-- letters are C1–C9, D1–D9, E2–E9
unfoldable pub is_letter : ℕ → Bool
is_letter b = within 0xC1 0xC9 b || within 0xD1 0xD9 b || within 0xE2 0xE9 b

-- digits F0–F9
unfoldable pub is_digit : ℕ → Bool
is_digit b = within 0xF0 0xF9 b

abbrev pub space : ℕ
space = 0x40

abbrev pub hyphen : ℕ
hyphen = 0x60

abbrev pub comma : ℕ
comma = 0x6B

-- the letters and the digit zero by name, for the text of the papers; T is a name of the library, V one of the language

abbrev pub A : ℕ
A = 0xC1

abbrev pub B : ℕ
B = 0xC2

abbrev pub C : ℕ
C = 0xC3

abbrev pub D : ℕ
D = 0xC4

abbrev pub E : ℕ
E = 0xC5

abbrev pub F : ℕ
F = 0xC6

abbrev pub G : ℕ
G = 0xC7

abbrev pub H : ℕ
H = 0xC8

abbrev pub I : ℕ
I = 0xC9

abbrev pub J : ℕ
J = 0xD1

abbrev pub K : ℕ
K = 0xD2

abbrev pub L : ℕ
L = 0xD3

abbrev pub M : ℕ
M = 0xD4

abbrev pub N : ℕ
N = 0xD5

abbrev pub O : ℕ
O = 0xD6

abbrev pub P : ℕ
P = 0xD7

abbrev pub Q : ℕ
Q = 0xD8

abbrev pub R : ℕ
R = 0xD9

abbrev pub S : ℕ
S = 0xE2

abbrev pub letter_t : ℕ
letter_t = 0xE3

abbrev pub U : ℕ
U = 0xE4

abbrev pub letter_v : ℕ
letter_v = 0xE5

abbrev pub W : ℕ
W = 0xE6

abbrev pub X : ℕ
X = 0xE7

abbrev pub Y : ℕ
Y = 0xE8

abbrev pub Z : ℕ
Z = 0xE9

abbrev pub zero_digit : ℕ
zero_digit = 0xF0
