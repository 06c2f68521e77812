mod Answers
mod Numbers
mod Suits
mod Union
mod Lists
