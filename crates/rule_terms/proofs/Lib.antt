mod Least
mod Ascending
mod Tokens
mod Decimals
mod PatternTexts
mod RuleLines
mod Readings
