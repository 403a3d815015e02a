-- Stated digests (ISO 28500:2017, 5.8, which leaves algorithm and encoding open). Which values state a digest is this
-- project's own choice: five algorithms, in hexadecimal or base32, in any case.
use Rattle.std.specs.Prelude.{◌≡◌, ◌≢◌, ◌⊎◌, ℕ, ◌-◌, ◌%◌, ◌<◌, Bool, ◌||◌, List, ◌∷◌, ◌++◌, length, map, replicate, codes, All, Option, Some, None, if◌then◌else◌}
use Rattle.std.specs.List.{flat_map}
use Rattle.std.specs.Char.{to_ascii_lowercase, to_ascii_uppercase}
use Rattle.std.specs.Str.{str_eq_ignore_ascii_case}
use Rattle.hex.specs.Hex.{encode_lower}
use Rattle.md5.specs.Md5.{md5}
use Rattle.sha1.specs.Sha1.{sha1}
use Rattle.sha2.specs.Sha256.{sha256}
use Rattle.sha2.specs.Sha512.{sha384, sha512}
use Rattle.warc_value.specs.Base32.{bits_of, number_of_bits, fives, symbol_of}
use Rattle.warc_fixity.specs.declared.names.Algorithm.{Algorithm}
use Rattle.warc_fixity.specs.declared.names.Algorithm.TheVariants.{Md5, Sha1, Sha256, Sha384, Sha512}

-- a name is one of two, in any case
abbrev pub is_either : List ℕ → List ℕ → List ℕ → Bool
is_either name plain hyphened = str_eq_ignore_ascii_case name plain || str_eq_ignore_ascii_case name hyphened

-- the algorithm that a name means, in any case
abbrev pub algorithm_of : List ℕ → Option Algorithm
algorithm_of name =
    if str_eq_ignore_ascii_case name (codes "md5") then Some Md5
    else if is_either name (codes "sha1") (codes "sha-1") then Some Sha1
    else if is_either name (codes "sha256") (codes "sha-256") then Some Sha256
    else if is_either name (codes "sha384") (codes "sha-384") then Some Sha384
    else if is_either name (codes "sha512") (codes "sha-512") then Some Sha512
    else None

-- the length in bytes of an algorithm's digests
abbrev pub digest_len : Algorithm → ℕ
digest_len Md5 = 16
digest_len Sha1 = 20
digest_len Sha256 = 32
digest_len Sha384 = 48
digest_len Sha512 = 64

-- the digest of a block (RFC 1321, FIPS 180-4)
abbrev pub block_hash : Algorithm → List ℕ → List ℕ
block_hash Md5 block = md5 block
block_hash Sha1 block = sha1 block
block_hash Sha256 block = sha256 block
block_hash Sha384 block = sha384 block
block_hash Sha512 block = sha512 block

-- the bits of bytes, and zeros up to a multiple of five
abbrev pub bits_in_fives : List ℕ → List ℕ
bits_in_fives bytes =
    let bits = flat_map (bits_of 8) bytes in bits ++ replicate ((5 - length bits % 5) % 5) 0

-- the text of bytes in base32 (RFC 4648, section 6), without its padding
unfoldable pub base32_text : List ℕ → List ℕ
base32_text bytes = map (λ five. symbol_of (number_of_bits five)) (fives (bits_in_fives bytes))

-- how many `=` go after a text, up to a multiple of eight characters
abbrev pub padding_len : ℕ → ℕ
padding_len len = (8 - len % 8) % 8

abbrev pub with_padding : List ℕ → List ℕ
with_padding text = text ++ replicate (padding_len (length text)) 61

-- a text writes bytes, in any case: in hexadecimal, in base32 without padding, or in base32 with all of it
abbrev pub IsDigestText : List ℕ → List ℕ → Type 0
IsDigestText text bytes = (map to_ascii_lowercase text ≡ encode_lower bytes)
    ⊎ ((map to_ascii_uppercase text ≡ base32_text bytes)
    ⊎ (map to_ascii_uppercase text ≡ with_padding (base32_text bytes)))

-- a value states a digest: a name without a colon, a colon, and a text that writes the digest
pub record States (value : List ℕ) (algorithm : Algorithm) (digest : List ℕ) : Type 0 where
  pub name : List ℕ
  pub text : List ℕ
  pub is : value ≡ name ++ 58 ∷ text
  pub no_colon : All (λ b. b ≢ 58) name
  pub means : algorithm_of name ≡ Some algorithm
  pub long : length digest ≡ digest_len algorithm
  pub small : All (λ b. b < 256) digest
  pub writes : IsDigestText text digest
